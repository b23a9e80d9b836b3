-- The exits and the increments of DOs in a copy are those of the unit.
use Rattle.std.proofs.Common.{◌≡◌, ℕ, ◌+◌, ◌<◌, true, ◌==◌, List, [], ◌∷◌, map, Option, Some, if◌then◌else◌, refl, sym, ap, subst, ◌∙◌}
use Rattle.std.specs.List.{slice_get}
use Rattle.f77_tree.specs.declared.statements.Labelled.{Labelled}
use Rattle.layout_rules.specs.Executables.{exit_after, exit_among, exit_of, first_of, increments_at, is_do_to, loops_to, own_executables}
use Rattle.layout_rules.specs.Labels.{statement_of}
use Rattle.program_units.specs.Units.{standing_in, unit_at}
use Rattle.program_units.specs.Copies.{Context, call_at, changes, end_by, number_at}
use Rattle.called_runs.specs.CopiedPositions.{Stands, first_increment, last_place, standing}
use Rattle.called_runs.proofs.ControlRoles.{stand-role}
use Rattle.called_runs.proofs.Grounds.{AreLaid, IsCopied}
use Rattle.called_runs.proofs.LastPieces.{IsLast, last-one}
use Rattle.called_runs.proofs.StandingExits.{stands-exit}
use Rattle.called_runs.proofs.StandingLists.{standing-at, standing-first, standing-loops, standing-met, standing-statement}

module _ (unit : List Labelled) where
  pub standing-exit-after : (place n : ℕ) (ds : List ℕ) → exit_after (standing_in unit) place n ds ≡ exit_after unit place n ds
  standing-exit-after place n [] = standing-met unit (place + 1)
  standing-exit-after place n (d ∷ ds) = refl

  standing-among : (place n : ℕ) (ds : List ℕ) (d : ℕ) → exit_among (standing_in unit) place n ds d ≡ exit_among unit place n ds d
  standing-among place n [] d = standing-met unit (place + 1)
  standing-among place n (inner ∷ outer) d =
      ap (λ (x : ℕ). if inner == d then x else exit_among (standing_in unit) place (n + 1) outer d) (standing-exit-after place n outer)
      ∙ ap (λ (x : ℕ). if inner == d then exit_after unit place n outer else x) (standing-among place (n + 1) outer d)

  standing-exit : (label d : ℕ) (s : Labelled) → slice_get unit (statement_of unit label) ≡ Some s → exit_of (standing_in unit) label d ≡ exit_among unit (statement_of unit label) (first_of unit (statement_of unit label) + own_executables s.stmt) (loops_to unit label) d
  standing-exit label d s is =
      let t = statement_of unit label in
      let stood = standing_in unit in
      ap (λ (n : ℕ). exit_among stood n (increments_at stood n (slice_get stood n)) (loops_to stood label) d) (standing-statement unit label)
      ∙ ap (λ (o : Option Labelled). exit_among stood t (increments_at stood t o) (loops_to stood label) d) (standing-at unit t s is)
      ∙ ap (λ (n : ℕ). exit_among stood t (n + own_executables (standing s).stmt) (loops_to stood label) d) (standing-first unit t)
      ∙ ap (λ (n : ℕ). exit_among stood t (first_of unit t + n) (loops_to stood label) d) (stand-role s.stmt).own
      ∙ ap (λ (ds : List ℕ). exit_among stood t (first_of unit t + own_executables s.stmt) ds d) (standing-loops unit label)
      ∙ standing-among t (first_of unit t + own_executables s.stmt) (loops_to unit label) d

module _ (us : List (List Labelled)) (list : List Labelled) (laid : AreLaid us list) (c : Context) (at : ℕ → ℕ) (held : IsCopied us list c at) where
  abbrev unit : List Labelled
  unit = unit_at us c.unit

  abbrev number : ℕ → ℕ
  number place = number_at us c.depth c.unit c.base place

  abbrev Comes : ℕ → ℕ → Type 0
  Comes position r = Stands us list c at position r

  listed-exit : (place d : ℕ) (s : Labelled) (label : ℕ) (last : IsLast us list laid c at held place s) → label ≡ last.last.label → 0 < s.label → exit_of list label (at d) ≡ exit_among list (last_place us c at place s) (first_increment us list c at place s) (map at (loops_to unit s.label)) (at d)
  listed-exit place d s label last is some =
      let there = last_place us c at place s in
      ap (λ (l : ℕ). exit_of list l (at d)) is
      ∙ ap (λ (n : ℕ). exit_among list n (increments_at list n (slice_get list n)) (loops_to list last.last.label) (at d)) (last.leads some)
      ∙ ap (λ (o : Option Labelled). exit_among list there (increments_at list there o) (loops_to list last.last.label) (at d)) last.stands
      ∙ ap (λ (n : ℕ). exit_among list there (first_of list there + n) (loops_to list last.last.label) (at d)) last.own
      ∙ ap (λ (ds : List ℕ). exit_among list there (first_increment us list c at place s) ds (at d)) last.loops

  -- where control goes when a DO is done
  pub stands-out : (label d : ℕ) (t : Labelled) → slice_get unit d ≡ Some t → is_do_to label t.stmt ≡ true → Comes (exit_of (standing_in unit) label d) (exit_of list ((changes us c).end label) (at d))
  stands-out label d t there does =
      let end = laid.have c.unit d label t there does in
      let place = statement_of unit label in
      let s = end.last in
      let is : slice_get unit place ≡ Some s = end.is.stands in
      let some : 0 < s.label = subst (λ (n : ℕ). 0 < n) (sym end.is.bears) end.is.some in
      let last = last-one us list laid c at held place s is end.is.kept in
      let label_is : (changes us c).end label ≡ last.last.label = ap (λ (o : Option Labelled). end_by us c.depth (call_at o) (number place)) is ∙ sym (last.label some) in
      let does_here : is_do_to s.label t.stmt ≡ true = subst (λ (n : ℕ). is_do_to n t.stmt ≡ true) (sym end.is.bears) does in
      let stands = stands-exit us list laid c at held place s is end.is.kept (held.open_ended d label t s there does is) d t there does_here in
      let mine : exit_of (standing_in unit) label d ≡ exit_among unit place (first_of unit place + own_executables s.stmt) (loops_to unit s.label) d =
      standing-exit unit label d s is ∙ ap (λ (n : ℕ). exit_among unit place (first_of unit place + own_executables s.stmt) (loops_to unit n) d) (sym end.is.bears) in
      subst (λ (n : ℕ). Comes n (exit_of list ((changes us c).end label) (at d))) (sym mine)
      (subst (λ (n : ℕ). Comes (exit_among unit place (first_of unit place + own_executables s.stmt) (loops_to unit s.label) d) n) (sym (listed-exit place d s ((changes us c).end label) last label_is some)) stands)
