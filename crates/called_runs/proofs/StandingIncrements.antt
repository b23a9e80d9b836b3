-- What the increments of DOs do, those of their copies do.
use Rattle.std.proofs.Common.{◌≡◌, ℕ, ◌+◌, ◌<◌, Bool, true, false, List, [], ◌∷◌, map, drop, Option, Some, refl, sym, ap, subst, ◌∙◌, arith}
use Rattle.std.specs.List.{slice_get}
use Rattle.std.proofs.lemmas.Bool.{eqb-true}
use Rattle.std.proofs.lemmas.Option.{slice_get_within}
use Rattle.f77_tree.specs.declared.programs.ExecKind.{ExecKind}
use Rattle.f77_tree.specs.declared.programs.ExecKind.TheVariants.{DoNext}
use Rattle.f77_tree.specs.declared.programs.NameInfo.{NameInfo}
use Rattle.f77_tree.specs.declared.statements.Labelled.{Labelled}
use Rattle.f77_tree.specs.declared.statements.RawExpr.{RawExpr}
use Rattle.f77_tree.specs.declared.statements.Stmt.{Stmt}
use Rattle.f77_tree.specs.declared.statements.Stmt.TheVariants.{Do}
use Rattle.f77_tree.specs.Declarations.{index_of}
use Rattle.layout_rules.specs.Executables.{exit_after, first_of, increments, is_do, is_do_to, loop_number, loops_to, own_executables, variable_of}
use Rattle.program_units.specs.Units.{is_end, standing_in, unit_at}
use Rattle.program_units.specs.Widths.{is_kept}
use Rattle.program_units.specs.Copies.{Context, changed_stmt, changes}
use Rattle.copied_control.proofs.WhichPieces.{IsPlain}
use Rattle.called_runs.specs.CopiedKinds.{ArePairwise, IsCopyOf, next_alike}
use Rattle.called_runs.specs.CopiedPositions.{AreCopiedLoops, Stands, first_increment, last_place, standing}
use Rattle.called_runs.proofs.CopiedEnds.{own-place}
use Rattle.called_runs.proofs.Grounds.{AreLaid, IsCopied}
use Rattle.called_runs.proofs.RisingPlaces.{is-do, loop-does}
use Rattle.called_runs.proofs.StandingExits.{do-kept, do-none, drop-got, drop-one, stands-after, stands-body}
use Rattle.called_runs.proofs.StandingLists.{standing-at, standing-first, standing-number}
use Rattle.called_runs.proofs.StandingPlaces.{copy-at}
use Rattle.called_runs.proofs.StandingRanges.{standing-exit-after}

-- the parts of a DO
record HasForm (label : ℕ) (t : Stmt) : Type 0 where
  pub variable : List ℕ
  pub first : RawExpr
  pub last : RawExpr
  pub step : Option RawExpr
  pub is : t ≡ Do label variable first last step

has-form : (label : ℕ) (t : Stmt) → is_do_to label t ≡ true → HasForm label t
has-form label (Do l variable first last step) does = record { variable = variable; first = first; last = last; step = step; is = ap (λ (n : ℕ). Do n variable first last step) (eqb-true l label does) }
has-form label _ does = let e : false ≡ true = does in absurd cc

module _ (Of : Stmt → Type 0) (OfTest : RawExpr → Type 0) (names others : List NameInfo) (checked : Bool) (us : List (List Labelled)) (list : List Labelled) (laid : AreLaid us list) (c : Context) (at : ℕ → ℕ) (held : IsCopied us list c at) where
  abbrev unit : List Labelled
  unit = unit_at us c.unit

  abbrev stood : List Labelled
  stood = standing_in unit

  abbrev Comes : ℕ → ℕ → Type 0
  Comes position r = Stands us list c at position r

  abbrev Like : ExecKind → ExecKind → Type 0
  Like = IsCopyOf Of OfTest Comes (AreCopiedLoops us list c at) names others checked (changes us c)

  -- no DO ends at END
  pub end-loops : (place : ℕ) (s : Labelled) → slice_get unit place ≡ Some s → is_end s.stmt ≡ true → loops_to unit s.label ≡ []
  end-loops place s is ends = by_loops (loops_to unit s.label) refl
    where
      by_loops : (ds : List ℕ) → loops_to unit s.label ≡ ds → loops_to unit s.label ≡ []
      by_loops [] loops = loops
      by_loops (d ∷ ds) loops =
          let found = is-do unit s.label d (loop-does unit s.label 0 d (ap (λ (xs : List ℕ). slice_get xs 0) loops)) in
          let some : 0 < s.label = (laid.have c.unit d s.label found.s found.is found.does).is.some in
          let here = own-place us list laid c at held place s is some in
          let no_end = held.open_ended d s.label found.s s found.is found.does (ap (λ (n : ℕ). slice_get unit n) here ∙ is) in
          let both : true ≡ false = sym ends ∙ no_end in
          absurd cc

  module _ (place : ℕ) (s : Labelled) (is : slice_get unit place ≡ Some s) (kept : is_kept c.unit s.stmt ≡ true) (no_end : is_end s.stmt ≡ false) (of : (d : ℕ) (t : Labelled) → slice_get unit d ≡ Some t → is_do_to s.label t.stmt ≡ true → Of t.stmt) where
    abbrev ends_here : List ℕ
    ends_here = loops_to unit s.label

    -- the increment of one DO
    one : (d i : ℕ) (ds : List ℕ) → slice_get ends_here i ≡ Some d → drop (i + 1) ends_here ≡ ds → (n m : ℕ) → n ≡ first_of unit place + own_executables s.stmt + i → m ≡ first_increment us list c at place s + i
        → Like (DoNext (loop_number stood d) (index_of names (variable_of (slice_get stood d))) (first_of stood d + 1) (exit_after stood place n ds)) (DoNext (loop_number list (at d)) (index_of others (variable_of (slice_get list (at d)))) (first_of list (at d) + 1) (exit_after list (last_place us c at place s) m (map at ds)))
    one d i ds got rest n m n_is m_is =
        let found = is-do unit s.label d (loop-does unit s.label i d got) in
        let t = found.s in
        let form = has-form s.label t.stmt found.does in
        let plain : IsPlain us c d t = record { kept = do-kept c.unit s.label t.stmt found.does; none = do-none s.label t.stmt found.does } in
        let mine : variable_of (slice_get stood d) ≡ form.variable = ap variable_of (standing-at unit d t found.is) ∙ ap (λ (u : Stmt). variable_of (Some (standing (record { label = t.label; line = t.line; stmt = u })))) form.is in
        let there : variable_of (slice_get list (at d)) ≡ (changes us c).name form.variable = ap variable_of (copy-at us list laid c at held d t found.is plain) ∙ ap (λ (u : Stmt). variable_of (Some (record { label = t.label; line = t.line; stmt = changed_stmt (changes us c) u }))) form.is in
        let loops : AreCopiedLoops us list c at (loop_number stood d) (loop_number list (at d)) = record { place = d; s = t; is = found.is; does = ap is_do form.is; own = standing-number unit d; there = refl } in
        let body : Comes (first_of stood d + 1) (first_of list (at d) + 1) = subst (λ (k : ℕ). Comes (k + 1) (first_of list (at d) + 1)) (sym (standing-first unit d)) (stands-body us list laid c at held d s.label t found.is found.does) in
        let after = stands-after us list laid c at held place s is kept no_end ds i rest (slice_get_within ends_here i d got) in
        let exit : Comes (exit_after stood place n ds) (exit_after list (last_place us c at place s) m (map at ds)) =
        subst (λ (k : ℕ). Comes k (exit_after list (last_place us c at place s) m (map at ds))) (ap (λ (k : ℕ). exit_after unit place k ds) (sym n_is) ∙ sym (standing-exit-after unit place n ds))
        (subst (λ (k : ℕ). Comes (exit_after unit place (first_of unit place + own_executables s.stmt + i) ds) (exit_after list (last_place us c at place s) k (map at ds))) (sym m_is) after) in
        let of_it : Of (Do s.label form.variable form.first form.last form.step) = subst Of form.is (of d t found.is found.does) in
        let made = next_alike s.label (loop_number stood d) (loop_number list (at d)) form.variable form.first form.last form.step (first_of stood d + 1) (exit_after stood place n ds) (first_of list (at d) + 1) (exit_after list (last_place us c at place s) m (map at ds)) of_it loops body exit in
        subst (λ (xs : List ℕ). Like (DoNext (loop_number stood d) (index_of names xs) (first_of stood d + 1) (exit_after stood place n ds)) (DoNext (loop_number list (at d)) (index_of others (variable_of (slice_get list (at d)))) (first_of list (at d) + 1) (exit_after list (last_place us c at place s) m (map at ds)))) (sym mine)
        (subst (λ (xs : List ℕ). Like (DoNext (loop_number stood d) (index_of names form.variable) (first_of stood d + 1) (exit_after stood place n ds)) (DoNext (loop_number list (at d)) (index_of others xs) (first_of list (at d) + 1) (exit_after list (last_place us c at place s) m (map at ds)))) (sym there) made)

    all-from : (ds : List ℕ) (i n m : ℕ) → drop i ends_here ≡ ds → n ≡ first_of unit place + own_executables s.stmt + i → m ≡ first_increment us list c at place s + i
        → ArePairwise Like (increments names stood place n ds) (increments others list (last_place us c at place s) m (map at ds))
    all-from [] i n m rest n_is m_is = tt
    all-from (d ∷ ds) i n m rest n_is m_is =
        let more = drop-one ends_here ds i d rest in
        (one d i ds (drop-got ends_here ds i d rest) more n m n_is m_is, all-from ds (i + 1) (n + 1) (m + 1) more (omega (arith, n_is)) (omega (arith, m_is)))

    pub increments-alike : ArePairwise Like (increments names stood place (first_of unit place + own_executables s.stmt) ends_here) (increments others list (last_place us c at place s) (first_increment us list c at place s) (map at ends_here))
    increments-alike = all-from ends_here 0 (first_of unit place + own_executables s.stmt) (first_increment us list c at place s) refl (omega arith) (omega arith)
