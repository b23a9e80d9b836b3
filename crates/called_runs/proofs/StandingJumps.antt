-- Where a jump of a unit leads, its copy leads to what stands for the statement.
use Rattle.std.proofs.Common.{◌≡◌, ℕ, ◌+◌, ◌<◌, Bool, true, false, not, ◌&&◌, ◌==◌, List, [], ◌∷◌, length, Option, Some, if◌then◌else◌, refl, sym, ap, subst, ◌∙◌, arith, length-append}
use Rattle.std.specs.List.{slice_get}
use Rattle.std.proofs.lemmas.Bool.{and_parts, eqb-true, ne_eqb}
use Rattle.std.proofs.lemmas.Option.{slice_get_within}
use Rattle.f77_tree.specs.declared.statements.Labelled.{Labelled}
use Rattle.layout_rules.specs.Executables.{first_of, labelled}
use Rattle.layout_rules.specs.Labels.{is_arm, is_executable, statement_of}
use Rattle.f77_layout.specs.Leading.{IsLedTo}
use Rattle.program_units.specs.Units.{Call, call_in, is_end, standing_in, unit_at}
use Rattle.program_units.specs.Widths.{is_kept, labels, labels_by, body_labels}
use Rattle.program_units.specs.Copies.{Context, changes, number_at}
use Rattle.unit_laws.proofs.BlockRoles.{unkept_is_end}
use Rattle.unit_laws.proofs.PieceLabels.{number-next}
use Rattle.copied_control.proofs.LabelPlaces.{first-leads}
use Rattle.copied_control.proofs.MappedLandings.{last-is}
use Rattle.copied_control.proofs.WhichPieces.{Which, left_out, calling, single, which, call-count}
use Rattle.called_runs.specs.CopiedPositions.{Stands, at_jump}
use Rattle.called_runs.proofs.ControlRoles.{stand-role}
use Rattle.called_runs.proofs.CopiedEnds.{own-place}
use Rattle.called_runs.proofs.Grounds.{AreLaid, IsCopied}
use Rattle.called_runs.proofs.StandingLists.{standing-first, standing-statement, stands-for}
use Rattle.called_runs.proofs.StandingPlaces.{stands-here}

module _ (us : List (List Labelled)) (list : List Labelled) (laid : AreLaid us list) (c : Context) (at : ℕ → ℕ) (held : IsCopied us list c at) where
  abbrev unit : List Labelled
  unit = unit_at us c.unit

  abbrev number : ℕ → ℕ
  number place = number_at us c.depth c.unit c.base place

  abbrev count : Labelled → ℕ
  count = labels (body_labels us c.depth) us c.unit

  pub standing-labelled : (label : ℕ) → labelled (standing_in unit) label ≡ labelled unit label
  standing-labelled label = standing-first unit (statement_of (standing_in unit) label) ∙ ap (λ (n : ℕ). first_of unit n) (standing-statement unit label)

  -- END is the last statement
  pub end-last : (place : ℕ) (s : Labelled) → slice_get unit place ≡ Some s → is_end s.stmt ≡ true → length unit ≡ place + 1
  end-last place s is ends =
      let e = held.ended in
      let there : place ≡ length e.front = last-is e.front e.last s place e.none (ap (λ (u : List Labelled). slice_get u place) (sym e.is) ∙ is) ends in
      let long : length unit ≡ length e.front + 1 = ap length e.is ∙ length-append e.front (e.last ∷ []) in
      omega (arith, there, long)

  -- a jump to END leads to the label that closes the copy
  back-is : (place : ℕ) (s : Labelled) → slice_get unit place ≡ Some s → is_kept c.unit s.stmt ≡ false → is_end s.stmt ≡ true → number place ≡ (changes us c).back
  back-is place s is none ends =
      let next = number-next us c place s is in
      let no_labels : count s ≡ 0 = ap (λ (kept : Bool). if kept then labels_by (body_labels us c.depth) us s.label (call_in s.stmt) else 0) none in
      let long : number (place + 1) ≡ number (length unit) = ap (λ (n : ℕ). number n) (sym (end-last place s is ends)) in
      omega (arith, next, no_labels, long)

  some-labels : (place : ℕ) (s : Labelled) → 0 < s.label → is_kept c.unit s.stmt ≡ true → Which us c place s → 0 < count s
  some-labels place s some kept (left_out none) = let both : true ≡ false = sym kept ∙ none in absurd cc
  some-labels place s some kept (calling call calls) = let many = call-count us c s call calls in omega (arith, many)
  some-labels place s some kept (single plain) =
      let one : count s ≡ 1 = ap (λ (k : Bool). if k then labels_by (body_labels us c.depth) us s.label (call_in s.stmt) else 0) kept ∙ ap (λ (o : Option Call). labels_by (body_labels us c.depth) us s.label o) plain.none
      ∙ ap (λ (b : Bool). if b then 0 else 1) (ne_eqb s.label 0 (λ (e : s.label ≡ 0). omega (arith, e, some))) in
      omega (arith, one)

  -- the place of a statement's number
  pub number-leads : (place : ℕ) (s : Labelled) → slice_get unit place ≡ Some s → is_kept c.unit s.stmt ≡ true → 0 < s.label → statement_of list (number place) ≡ at place
  number-leads place s is kept some = first-leads us list c at laid.count held.stands laid.rows place s is (some-labels place s some kept (which us c place s))

  to-statement : (place : ℕ) (s : Labelled) → slice_get unit place ≡ Some s → is_executable s.stmt ≡ true → 0 < s.label → Stands us list c at (first_of unit place) (labelled list (number place))
  to-statement place s is does some = by_kept (is_kept c.unit s.stmt) refl
    where
      by_kept : (b : Bool) → is_kept c.unit s.stmt ≡ b → Stands us list c at (first_of unit place) (labelled list (number place))
      by_kept true kept = subst (λ (n : ℕ). Stands us list c at (first_of unit place) (first_of list n)) (sym (number-leads place s is kept some)) (stands-here us list laid c at held place (slice_get_within unit place s is))
      by_kept false none =
          let ends = unkept_is_end c.unit s.stmt none does in
          at_jump place s is none ends refl (ap (λ (n : ℕ). labelled list n) (back-is place s is none ends))

  pub stands-labelled : (label : ℕ) → 0 < label → IsLedTo (standing_in unit) held.execs label (labelled (standing_in unit) label) → Stands us list c at (labelled (standing_in unit) label) (labelled list ((changes us c).jump label))
  stands-labelled label some led =
      let whose = stands-for unit led.place led.statement led.stands in
      let s = whose.s in
      let parts = and_parts ((led.statement.label == label) && is_executable led.statement.stmt) (not (is_arm led.statement.stmt)) led.bears_it in
      let both = and_parts (led.statement.label == label) (is_executable led.statement.stmt) parts.0 in
      let has : s.label ≡ label = ap (λ (x : Labelled). x.label) (sym whose.same) ∙ eqb-true led.statement.label label both.0 in
      let does : is_executable s.stmt ≡ true = sym (stand-role s.stmt).does ∙ ap (λ (x : Labelled). is_executable x.stmt) (sym whose.same) ∙ both.1 in
      let own : 0 < s.label = omega (arith, has, some) in
      let there : statement_of unit label ≡ led.place = ap (λ (n : ℕ). statement_of unit n) (sym has) ∙ own-place us list laid c at held led.place s whose.is own in
      let mine : first_of unit led.place ≡ labelled (standing_in unit) label = sym (standing-labelled label ∙ ap (λ (n : ℕ). first_of unit n) there) in
      subst (λ (n : ℕ). Stands us list c at n (labelled list ((changes us c).jump label))) mine
      (subst (λ (n : ℕ). Stands us list c at (first_of unit led.place) (labelled list (number n))) (sym there) (to-statement led.place s whose.is does own))
