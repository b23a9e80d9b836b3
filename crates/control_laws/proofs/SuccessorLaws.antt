-- Each successor of an executable is an executable of the program, where nothing is refused.
use Rattle.std.proofs.Common.{◌≡◌, ℕ, suc, ◌+◌, ◌-◌, ◌<◌, Bool, true, ◌||◌, ◌⊎◌, inl, inr, List, [], ◌∷◌, length, drop, All, get_or, None, refl, sym, ap, subst, ◌∙◌, arith, ◌≢◌, zero, ◌≤◌, false, ◌&&◌, ◌==◌, nat_lt, Some, ⊎_elim}
use Rattle.std.specs.Prelude.{slice_get, sum_by}
use Rattle.std.proofs.lemmas.Bool.{cases_eq, cases_Bool, cond_both, or_right}
use Rattle.std.proofs.lemmas.Option.{slice_get_within, slice_get-get_or, get_or_from_slice_get}
use Rattle.std.proofs.lemmas.List.{take_all}
use Rattle.f77_tree.specs.declared.programs.ExecKind.{ExecKind}
use Rattle.f77_tree.specs.declared.programs.NameInfo.{NameInfo}
use Rattle.f77_tree.specs.declared.statements.Labelled.{Labelled}
use Rattle.f77_tree.specs.declared.statements.Stmt.{Stmt}
use Rattle.f77_tree.specs.declared.statements.Stmt.TheVariants.{Else, End}
use Rattle.f77_tree.specs.Control.{successors, SuccessorsExist}
use Rattle.layout_rules.specs.Faults.{first_line}
use Rattle.layout_rules.specs.Source.{IsSource}
use Rattle.layout_rules.specs.Labels.{is_labelled_twice, lacks_label, is_arm, jumps, statement_of, is_executable}
use Rattle.layout_rules.specs.Nesting.{first_unnested}
use Rattle.layout_rules.specs.Jumps.{is_block_if, end_of_block, end_of_arm}
use Rattle.layout_rules.specs.Executables.{own_kinds, beyond, is_do_in, loops_to, first_of, exit_after, executables, own_executables, executables_with_ends, met, is_else_at, when_false, loops_above, exit_of}
use Rattle.layout_rules.specs.Tables.{begins_arm, IsStanding, IsUsable}
use Rattle.control_structure.proofs.Usable.{usable as all_usable, used_jumps}
use Rattle.control_structure.proofs.Exits.{AllOf, label-of_statement, exit-outermost, exit-inner}
use Rattle.control_structure.proofs.Meeting.{met-arm, met-own, met-passed}
use Rattle.control_structure.proofs.Walks.{item_at}
use Rattle.layout_rules.specs.declared.nesting.Opened.TheVariants.{Loop}
use Rattle.control_structure.proofs.Laminar.{before_end}
use Rattle.control_structure.proofs.OpenSpans.{AreLabelled}
use Rattle.control_structure.proofs.SourceLabels.{AreLabelled-source}
use Rattle.control_laws.proofs.LoopPlaces.{usable-at, length-executables, first-next, first-rises}
use Rattle.control_laws.proofs.LoopBegins.{OwnAt, EndAt, comes}
use Rattle.control_laws.proofs.LoopSpans.{do-in, ends-do, do-from, opens-do, ends-before, AllOf-got, IsEnding, ends-dos}
use Rattle.control_laws.proofs.LoopSuccessors.{each-got, own-lead}
use Rattle.control_laws.proofs.SuccessorBlocks.{IsEnded, StopsAt, stops}

-- ---- the executables up to a place

last-ended : (stmts : List Labelled) → 0 < length stmts → ((s : Labelled) → slice_get stmts (length stmts - 1) ≡ Some s → s.stmt ≡ End) → IsEnded stmts
last-ended [] some last = absurd (omega arith)
last-ended (s ∷ []) some last = last s refl
last-ended (s ∷ next ∷ rest) some last = last-ended (next ∷ rest) (omega arith) (λ t at.
    let e : length (s ∷ next ∷ rest) - 1 ≡ suc (length (next ∷ rest) - 1) = omega arith in
    last t (ap (slice_get (s ∷ next ∷ rest)) e ∙ at))

else-not_end : (stmt : Stmt) → (is_arm stmt && (own_executables stmt == 0)) ≡ true → stmt ≡ End → ⊥
else-not_end End e is = let h : false ≡ true = e in absurd cc
else-not_end _ e is = absurd cc

-- the number of executables in all
abbrev pub total : List Labelled → ℕ
total stmts = sum_by (executables_with_ends stmts) stmts

module _ (stmts : List Labelled) (source : IsSource stmts) (nested : first_unnested [] stmts ≡ None) where
  pub is_last : (s : Labelled) → slice_get stmts (length stmts - 1) ≡ Some s → s.stmt ≡ End
  is_last s at =
      let h : Some s ≡ Some source.ended.last = sym at ∙ source.ended.stands in
      let same : s ≡ source.ended.last = cc in
      ap (λ (a : Labelled). a.stmt) same ∙ source.ended.is

  some : 0 < length stmts
  some = let inside = slice_get_within stmts (length stmts - 1) source.ended.last source.ended.stands in omega (arith, inside)

  ended : IsEnded stmts
  ended = last-ended stmts some is_last

  pub all_taken : first_of stmts (length stmts) ≡ total stmts
  all_taken = ap (sum_by (executables_with_ends stmts)) (take_all (length stmts) stmts (omega arith))

  -- END has an executable
  last-some : first_of stmts (length stmts - 1) < total stmts
  last-some =
      let last = source.ended.last in
      let m = length stmts - 1 in
      let step = first-next stmts m last source.ended.stands in
      let own : own_executables last.stmt ≡ 1 = ap own_executables source.ended.is in
      let e : m + 1 ≡ length stmts = omega (arith, some) in
      let f = ap (first_of stmts) e in
      omega (arith, step, own, f, all_taken)

  -- the first executable of each statement is among them, and for a statement with none that of the next
  pub first-exists : (place : ℕ) → place < length stmts → first_of stmts place < total stmts
  first-exists place inside =
      let up = first-rises stmts place (length stmts - 1) (omega (arith, inside)) (omega arith) in
      omega (arith, up, last-some)

  -- a statement that isn't END stands above another
  pub not-last : (place : ℕ) (s : Labelled) → slice_get stmts place ≡ Some s → (s.stmt ≡ End → ⊥) → place + 1 < length stmts
  not-last place s at other = ⊎_elim
      (λ (same : place ≡ length stmts - 1). absurd (other (is_last s (sym (ap (slice_get stmts) same) ∙ at))))
      (λ (differ : place ≢ length stmts - 1). let inside = slice_get_within stmts place s at in omega (arith, inside, differ))
      (cases_eq place (length stmts - 1))

  -- what comes after the executables of a statement above the last
  pub up_to-exists : (place : ℕ) (s : Labelled) → slice_get stmts place ≡ Some s → place + 1 < length stmts → first_of stmts place + (own_executables s.stmt + length (loops_to stmts s.label)) < total stmts
  up_to-exists place s at above =
      let e = first-next stmts place s at in
      let f = first-exists (place + 1) above in
      omega (arith, e, f)

  -- ---- where control comes to

  met-at : (n place : ℕ) → place < length stmts → length stmts ≤ place + n → met stmts place < total stmts
  met-at zero place inside least = absurd (omega (arith, inside, least))
  met-at (suc n) place inside least =
      let here = item_at stmts place inside in
      let s = here.0 in
      elim (cases_Bool (is_arm s.stmt)) as (λ _. met stmts place < total stmts) [
        | inl arm ↦
            let end : StopsAt false stmts (end_of_block stmts place) = stops false stmts ended nested place s here.1 (or_right (is_block_if s.stmt) (is_arm s.stmt) arm) in
            omega (arith, met-arm stmts place s here.1 arm, first-exists (end_of_block stmts place) (slice_get_within stmts (end_of_block stmts place) end.s end.stands))
        | inr no_arm ↦ elim (cases_Bool (is_executable s.stmt)) as (λ _. met stmts place < total stmts) [
          | inl own ↦ omega (arith, met-own stmts place s here.1 no_arm own, first-exists place inside)
          | inr none ↦
              let above = not-last place s here.1 (λ end. let z : true ≡ false = sym (ap is_executable end) ∙ none in absurd cc) in
              omega (arith, met-passed stmts place s here.1 no_arm none, met-at n (place + 1) above (omega (arith, least)))
        ]
      ]

  pub met-exists : (place : ℕ) → place < length stmts → met stmts place < total stmts
  met-exists place inside = met-at (length stmts) place inside (omega arith)

  -- after a statement above the last
  pub after-exists : (place : ℕ) (s : Labelled) → slice_get stmts place ≡ Some s → place + 1 < length stmts → beyond stmts place s < total stmts
  after-exists place s at above =
      cond_both (nat_lt 0 (length (loops_to stmts s.label))) (first_of stmts place + own_executables s.stmt) (met stmts (place + 1)) (λ k. k < total stmts)
      (λ some. omega (arith, up_to-exists place s at above))
      (λ none. met-exists (place + 1) above)

  -- a false condition leads on
  pub when_false-exists : (place : ℕ) (s : Labelled) → slice_get stmts place ≡ Some s → (is_block_if s.stmt || is_arm s.stmt) ≡ true → when_false stmts place < total stmts
  when_false-exists place s at heads =
      let end = end_of_arm stmts place in
      let stop : StopsAt true stmts end = stops true stmts ended nested place s at heads in
      cond_both (is_else_at (slice_get stmts end)) (met stmts (end + 1)) (first_of stmts end) (λ k. k < total stmts)
      (λ e. met-exists (end + 1) (not-last end stop.s stop.stands (else-not_end stop.s.stmt (sym (ap is_else_at stop.stands) ∙ e))))
      (λ e. first-exists end (slice_get_within stmts end stop.s stop.stands))

-- ---- no loop ends at END, and each loop's body and exit are executables of the program

module _ (stmts : List Labelled) (source : IsSource stmts) (once : first_line is_labelled_twice stmts ≡ None) (nested : first_unnested [] stmts ≡ None) where
  abbrev are : AreLabelled stmts
  are = AreLabelled-source stmts source once

  -- the last statement ends no DO
  pub no_do-ends : (s : Labelled) → slice_get stmts (length stmts - 1) ≡ Some s → (d : ℕ) → is_do_in s.label (slice_get stmts d) ≡ true → ⊥
  no_do-ends s at d is =
      let it = do-from stmts d s.label is in
      let place : statement_of stmts s.label ≡ length stmts - 1 = are.places (length stmts - 1) s at (are.loops d s.label (opens-do stmts d s.label it)) in
      let before = ends-before stmts are source.ended nested d s.label it in
      omega (arith, place, before)

  pub no_loops-end : (s : Labelled) → slice_get stmts (length stmts - 1) ≡ Some s → loops_to stmts s.label ≡ []
  no_loops-end s at = by (loops_to stmts s.label) (ends-dos stmts s.label (length stmts))
    where
      by : (ds : List ℕ) → AllOf (IsEnding stmts s.label (length stmts)) ds → ds ≡ []
      by [] all = refl
      by (d ∷ ds) all = absurd (no_do-ends s at d all.0.0)

  -- the body of a DO begins after it
  pub body-exists : (label d : ℕ) → is_do_in label (slice_get stmts d) ≡ true → first_of stmts d + 1 < total stmts
  body-exists label d is =
      let it = do-from stmts d label is in
      let own : own_executables it.s.stmt ≡ 1 = ap own_executables it.is in
      let up = up_to-exists stmts source nested d it.s it.stands (before_end stmts are source.ended nested d (Loop label) (opens-do stmts d label it)) in
      omega (arith, up, own)

  -- control goes on after a DO
  pub exit-exists : (label place : ℕ) → place < length stmts → is_do_in label (slice_get stmts place) ≡ true → exit_of stmts label place < total stmts
  exit-exists label place inside is =
      let terminal = statement_of stmts label in
      let above : terminal + 1 < length stmts = ends-before stmts are source.ended nested place label (do-from stmts place label is) in
      let t = item_at stmts terminal (omega (arith, above)) in
      let up = up_to-exists stmts source nested terminal t.0 t.1 above in
      let many = ap (λ l. length (loops_to stmts l)) (label-of_statement stmts label t.0 t.1) in
      let next = met-exists stmts source nested (terminal + 1) above in
      ⊎_elim
      (λ (none : length (loops_above stmts label place) ≡ 0). let e = exit-outermost stmts label place inside is none in omega (arith, e, next))
      (λ (some : length (loops_above stmts label place) ≢ 0). let e = exit-inner stmts label place inside is t.0 t.1 (omega (arith, some)) in omega (arith, e, up, many, some))
      (cases_eq (length (loops_above stmts label place)) 0)

heads : (stmt : Stmt) → begins_arm stmt ≡ (is_block_if stmt || is_arm stmt)
heads Else = refl
heads _ = refl

module _ (stmts : List Labelled) (source : IsSource stmts) (once : first_line is_labelled_twice stmts ≡ None) (stands : first_line (lacks_label stmts) stmts ≡ None) (nested : first_unnested [] stmts ≡ None) (names : List NameInfo) (checked : Bool) where
  abbrev usable : All (IsUsable stmts) stmts
  usable = all_usable stmts source stands

  abbrev Inside : ℕ → Type 0
  Inside s = s < total stmts

  module _ (k : ℕ) (kind : ExecKind) where
    above-lead : (at : OwnAt names checked stmts k kind) → at.place + 1 < length stmts → AllOf Inside (successors kind)
    above-lead at above =
        let place = at.place in
        let is = usable-at names checked stmts usable place at.s at.stands in
        let up = up_to-exists stmts source nested place at.s at.stands above in
        let standing : All (IsStanding stmts) (jumps at.s.stmt) = used_jumps (IsStanding stmts) at.s.stmt is.labels in
        own-lead names checked stmts k Inside kind at is.inner (first-exists stmts source nested (length stmts - 1) (omega (arith, above))) (λ s e. omega (arith, e, at.at, at.own, up))
        (λ m x got. first-exists stmts source nested (statement_of stmts x) (subst (IsStanding stmts) (get_or_from_slice_get (jumps at.s.stmt) m x x got) (standing m x (slice_get_within (jumps at.s.stmt) m x got))).stands)
        (λ label ends. exit-exists stmts source once nested label place (omega (arith, above)) (ap (is_do_in label) at.stands ∙ ends))
        (λ other. (after-exists stmts source nested place at.s at.stands above, λ arm. (met-exists stmts source nested (place + 1) above, when_false-exists stmts source nested place at.s at.stands (sym (heads at.s.stmt) ∙ arm))))

    -- END leads nowhere
    own-leads : (at : OwnAt names checked stmts k kind) → AllOf Inside (successors kind)
    own-leads at =
        let index = first_of stmts at.place in
        let kinds : Stmt → List ExecKind = own_kinds names checked stmts at.place index (beyond stmts at.place at.s) in
        elim (cases_eq at.place (length stmts - 1)) as (λ _. AllOf Inside (successors kind)) [
          | inl same ↦ each-got names checked stmts k Inside index at.j (kinds End) kind (λ e. tt, tt) (sym (ap (λ (t : Stmt). slice_get (kinds t) at.j) (is_last stmts source nested at.s (sym (ap (slice_get stmts) same) ∙ at.stands))) ∙ at.got) at.at
          | inr apart ↦ above-lead at (omega (arith, slice_get_within stmts at.place at.s at.stands, apart))
        ]

    -- increments lead to the bodies of their loops, and on
    end-leads : EndAt names stmts k kind → AllOf Inside (successors kind)
    end-leads at =
        let ds = loops_to stmts at.s.label in
        let is : is_do_in at.s.label (slice_get stmts at.d) ≡ true = do-in stmts at.d at.s.label (ends-do stmts at.s.label at.m at.d at.got) in
        let last : at.place ≡ length stmts - 1 → ⊥ = λ e. no_do-ends stmts source once nested at.s (sym (ap (slice_get stmts) e) ∙ at.stands) at.d is in
        let above : at.place + 1 < length stmts = omega (arith, last, slice_get_within stmts at.place at.s at.stands) in
        let up = up_to-exists stmts source nested at.place at.s at.stands above in
        let within = slice_get_within ds at.m at.d at.got in
        subst (λ (x : ExecKind). AllOf Inside (successors x)) (sym at.is) (body-exists stmts source once nested at.s.label at.d is, (leave at.place above (omega (arith, at.at, within, up)) (drop (suc at.m) ds), tt))
      where
        leave : (place : ℕ) → place + 1 < length stmts → k + 1 < total stmts → (outer : List ℕ) → exit_after stmts place k outer < total stmts
        leave place above next [] = met-exists stmts source nested (place + 1) above
        leave place above next (d ∷ outer) = next

    leads : OwnAt names checked stmts k kind ⊎ EndAt names stmts k kind → AllOf Inside (successors kind)
    leads from = elim from as (λ _. AllOf Inside (successors kind)) [
      | inl own ↦ own-leads own
      | inr end ↦ end-leads end
    ]

  -- each successor of an executable is an index of one
  pub successors_exist : SuccessorsExist (executables names checked stmts)
  successors_exist k d below j x within =
      let execs = executables names checked stmts in
      let e = get_or execs k d in
      let inside = AllOf-got Inside (successors e.kind) j (get_or (successors e.kind) j x) (leads k e.kind (comes names checked stmts usable k e (slice_get-get_or execs k d below))) (slice_get-get_or (successors e.kind) j x within) in
      omega (arith, inside, length-executables names checked stmts usable, all_taken stmts source nested)
