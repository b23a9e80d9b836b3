-- What the executables of a statement's own do, those of its copy do.
use Rattle.std.proofs.Common.{◌≡◌, ℕ, zero, suc, ◌+◌, ◌<◌, ◌≤◌, ◌⊎◌, inl, inr, Bool, true, false, ◌||◌, List, length, Some, None, refl, sym, ap, subst, ◌∙◌, arith}
use Rattle.std.specs.List.{slice_get}
use Rattle.std.proofs.lemmas.Bool.{cases_lt, eq-eqb}
use Rattle.f77_tree.specs.declared.programs.ExecKind.{ExecKind}
use Rattle.f77_tree.specs.declared.programs.NameInfo.{NameInfo}
use Rattle.f77_tree.specs.declared.statements.Labelled.{Labelled}
use Rattle.f77_tree.specs.declared.statements.RawExpr.{RawExpr}
use Rattle.f77_tree.specs.declared.statements.Stmt.{Stmt, more_of-Stmt}
use Rattle.f77_tree.specs.declared.statements.Stmt.TheVariants.{Program, Implicit, ImplicitNone, TypeOf, Dimension, Common, Equivalence, Init, Assign, Print, Take, Continue, Stop, GoTo, PickGoTo, SignIf, ThenIf', BlockIf, ElseIf, Else, EndIf, Do, Sub, CallTo, Back, End}
use Rattle.f77_tree.proofs.AllLemmas.{All-get}
use Rattle.layout_rules.specs.Executables.{beyond, first_of, is_do, is_do_to, labelled, loop_number, met, own_executables, own_kinds, exit_of, when_false}
use Rattle.layout_rules.specs.Jumps.{is_block_if}
use Rattle.layout_rules.specs.Labels.{IsLabel, is_arm, jumps, used}
use Rattle.layout_rules.specs.StatementTrees.{IsTree}
use Rattle.layout_rules.specs.Tables.{has_simple_inner, is_simple}
use Rattle.program_units.specs.Units.{call_by, call_in, inner, is_end, stand_in, stand_in_alone, standing_in, unit_at}
use Rattle.program_units.specs.Copies.{Context, changed_stmt, changes}
use Rattle.copied_control.proofs.WhichPieces.{IsPlain}
use Rattle.called_runs.specs.CopiedKinds.{ArePairwise, IsCopyOf, condition_of, end_alike, pass_alike, start_alike, test_alike}
use Rattle.called_runs.specs.CopiedPositions.{AreCopiedLoops, Stands, at_copy, leaves, standing, copy_of}
use Rattle.called_runs.proofs.Grounds.{AreLaid, IsCopied}
use Rattle.called_runs.proofs.StandingExits.{stands-body, stands-own-end}
use Rattle.called_runs.proofs.StandingJumps.{stands-labelled}
use Rattle.called_runs.proofs.StandingKinds.{simple-alike}
use Rattle.called_runs.proofs.StandingLists.{standing-at, standing-first, standing-met, standing-number}
use Rattle.called_runs.proofs.StandingNexts.{plain-beyond, plain-last, plain-some, stands-behind, stands-false}
use Rattle.called_runs.proofs.StandingRanges.{stands-out}

used-jumps : (t : Stmt) (j l : ℕ) → slice_get (jumps t) j ≡ Some l → slice_get (used t) j ≡ Some l
used-jumps (Do a b c d e) j l is = let h : None ≡ Some l = is in absurd cc
used-jumps _ j l is = is

alone-same : (t : Stmt) → call_by t ≡ None → leaves t ≡ false → is_simple (stand_in_alone t) ≡ true → stand_in_alone t ≡ t
alone-same (CallTo a b) none stays simple = let e : Some (record { name = a; arguments = b }) ≡ None = none in absurd cc
alone-same Back none stays simple = let e : true ≡ false = stays in absurd cc
alone-same (Sub a b) none stays simple = let e : false ≡ true = simple in absurd cc
alone-same _ none stays simple = refl

module _ (Of : Stmt → Type 0) (OfTest : RawExpr → Type 0) (names others : List NameInfo) (checked : Bool) (us : List (List Labelled)) (list : List Labelled) (laid : AreLaid us list) (c : Context) (at : ℕ → ℕ) (held : IsCopied us list c at) where
  abbrev unit : List Labelled
  unit = unit_at us c.unit

  abbrev stood : List Labelled
  stood = standing_in unit

  abbrev Comes : ℕ → ℕ → Type 0
  Comes position r = Stands us list c at position r

  abbrev Like : ExecKind → ExecKind → Type 0
  Like = IsCopyOf Of OfTest Comes (AreCopiedLoops us list c at) names others checked (changes us c)

  module _ (place : ℕ) (s : Labelled) (is : slice_get unit place ≡ Some s) (plain : IsPlain us c place s) where
    abbrev index : ℕ
    index = first_of stood place

    abbrev index' : ℕ
    index' = first_of list (at place)

    there : slice_get stood place ≡ Some (standing s)
    there = standing-at unit place s is

    tree : IsTree (stand_in s.stmt)
    tree = All-get (λ (t : Labelled). IsTree t.stmt) stood place (standing s) held.source.trees there

    jump : (j l : ℕ) → slice_get (jumps (stand_in s.stmt)) j ≡ Some l → Comes (labelled stood l) (labelled list ((changes us c).jump l))
    jump j l jumps_to =
        let uses = used-jumps (stand_in s.stmt) j l jumps_to in
        let label : IsLabel l = All-get IsLabel (used (stand_in s.stmt)) j l tree.labels uses in
        stands-labelled us list laid c at held l (positive l label.0) (held.leads place j (standing s) l there uses)
      where
        positive : (n : ℕ) → (n ≡ 0 → ⊥) → 0 < n
        positive zero some = absurd (some refl)
        positive (suc n) some = omega arith

    -- its own executables one after another
    step : is_end s.stmt ≡ false → (k : ℕ) → k ≤ own_executables s.stmt → Comes (index + k) (index' + k)
    step no_end k most = subst (λ (n : ℕ). Comes (n + k) (index' + k)) (sym (standing-first unit place)) (by_order (cases_lt k (own_executables s.stmt)))
      where
        by_order : (k < own_executables s.stmt) ⊎ (own_executables s.stmt ≤ k) → Comes (first_of unit place + k) (first_of list (at place) + k)
        by_order (inl below) = at_copy place k s is plain.kept plain.none below refl refl
        by_order (inr above) = subst (λ (n : ℕ). Comes (first_of unit place + n) (first_of list (at place) + n)) (let e : own_executables s.stmt ≡ k = omega (arith, most, above) in e) (stands-own-end us list laid c at held place s is plain no_end)

    on : is_end s.stmt ≡ false → Comes (met stood (place + 1)) (met list (at place + 1))
    on no_end =
        subst (λ (n : ℕ). Comes n (met list (at place + 1))) (sym (standing-met unit (place + 1)))
        (subst (λ (n : ℕ). Comes (met unit (place + 1)) (met list (n + 1))) (plain-last us list laid c at held place s plain) (stands-behind us list laid c at held place s is no_end (plain-some us list laid c at held place s plain)))

    module _ (next next' : ℕ) (onward : is_end s.stmt ≡ false → Comes next next') where
      abbrev Alike : Stmt → Type 0
      Alike t = ArePairwise Like (own_kinds names checked stood place index next (stand_in t)) (own_kinds others checked list (at place) index' next' (changed_stmt (changes us c) t))

      -- one that may stand after a condition
      alone : (t : Stmt) → s.stmt ≡ t → stand_in t ≡ t → is_end t ≡ false → is_simple t ≡ true → leaves t ≡ false → Of t → ((targets : List RawExpr) → t ≡ Take targets → own_executables t ≡ length targets) → Alike t
      alone t same stands no_end simple stays of reads =
          subst (λ (u : Stmt). ArePairwise Like (own_kinds names checked stood place index next u) (own_kinds others checked list (at place) index' next' (changed_stmt (changes us c) t))) (sym stands)
          (simple-alike Of OfTest Comes (AreCopiedLoops us list c at) names others checked (changes us c) stood list place (at place) t simple stays of index next index' next' (onward (ap is_end same ∙ no_end))
          (λ j l jumps_to. jump j l (ap (λ (u : Stmt). slice_get (jumps (stand_in u)) j) same ∙ ap (λ (u : Stmt). slice_get (jumps u) j) stands ∙ jumps_to))
          (λ targets taken k below. step (ap is_end same ∙ no_end) (k + 1) (let own = ap own_executables same ∙ reads targets taken in omega (arith, own, below))))

      -- the condition and the statement after it
      guarded : (condition : RawExpr) (shape : _) (stmt : Stmt) (rest : _) → s.stmt ≡ ThenIf' condition shape (more_of-Stmt stmt rest) → call_by stmt ≡ None → leaves stmt ≡ false → Of stmt → OfTest condition → Alike (ThenIf' condition shape (more_of-Stmt stmt rest))
      unfolding Rattle.f77_tree.specs.declared.statements.Stmt.TheBlock.hidden-the_row-Stmt-0 denote.Hole.Carrier.hidden
      guarded condition shape stmt rest same none stays of test =
          let simple : is_simple (stand_in_alone stmt) ≡ true = ap (λ (t : Stmt). has_simple_inner (stand_in t)) (sym same) ∙ tree.inner in
          let alone_is : stand_in_alone stmt ≡ stmt = alone-same stmt none stays simple in
          let forward = onward (ap is_end same) in
          let own : own_executables s.stmt ≡ 1 + own_executables stmt = ap own_executables same in
          let rest_alike = simple-alike Of OfTest Comes (AreCopiedLoops us list c at) names others checked (changes us c) stood list place (at place) stmt (ap is_simple (sym alone_is) ∙ simple) stays of (index + 1) next (index' + 1) next' forward
          (λ j l jumps_to. jump j l (ap (λ (u : Stmt). slice_get (jumps (stand_in u)) j) same ∙ ap (λ (u : Stmt). slice_get (jumps u) j) alone_is ∙ jumps_to))
          (λ targets taken k below.
          let more : own_executables stmt ≡ length targets = ap own_executables taken in
          subst (λ (n : ℕ). Comes n (index' + 1 + (k + 1))) (let e : index + (k + 1 + 1) ≡ index + 1 + (k + 1) = omega arith in e)
          (subst (λ (n : ℕ). Comes (index + (k + 1 + 1)) n) (let e : index' + (k + 1 + 1) ≡ index' + 1 + (k + 1) = omega arith in e) (step (ap is_end same) (k + 1 + 1) (omega (arith, own, more, below))))) in (
            test_alike condition (index + 1) next (index' + 1) next' test (step (ap is_end same) 1 (omega (arith, own))) forward,
            subst (λ (u : Stmt). ArePairwise Like (own_kinds names checked stood place (index + 1) next u) (own_kinds others checked list (at place) (index' + 1) next' (changed_stmt (changes us c) stmt))) (sym alone_is) rest_alike,
          )

      pub by-form : (t : Stmt) → s.stmt ≡ t → call_in t ≡ None → leaves (inner t) ≡ false → Of t → Of (inner t) → ((e : RawExpr) → condition_of t ≡ Some e → OfTest e) → Alike t
      by-form (ThenIf' condition shape (more_of-Stmt stmt rest)) same none stays of of_inner test = guarded condition shape stmt rest same none stays of_inner (test condition refl)
      by-form (Assign a b) same none stays of of_inner test = alone (Assign a b) same refl refl refl refl of (λ targets e. absurd cc)
      by-form (Print a) same none stays of of_inner test = alone (Print a) same refl refl refl refl of (λ targets e. absurd cc)
      by-form (Take a) same none stays of of_inner test = alone (Take a) same refl refl refl refl of (λ targets e. ap own_executables e)
      by-form Continue same none stays of of_inner test = alone Continue same refl refl refl refl of (λ targets e. absurd cc)
      by-form (GoTo a) same none stays of of_inner test = alone (GoTo a) same refl refl refl refl of (λ targets e. absurd cc)
      by-form (PickGoTo a b) same none stays of of_inner test = alone (PickGoTo a b) same refl refl refl refl of (λ targets e. absurd cc)
      by-form (SignIf a b d e) same none stays of of_inner test = alone (SignIf a b d e) same refl refl refl refl of (λ targets e. absurd cc)
      by-form Stop same none stays of of_inner test = let e : true ≡ false = stays in absurd cc
      by-form Back same none stays of of_inner test = let e : true ≡ false = stays in absurd cc
      by-form (CallTo a b) same none stays of of_inner test = let e : Some (record { name = a; arguments = b }) ≡ None = none in absurd cc
      by-form (BlockIf e) same none stays of of_inner test = (test_alike e (met stood (place + 1)) (when_false stood place) (met list (at place + 1)) (when_false list (at place)) (test e refl) (on (ap is_end same)) (stands-false us list laid c at held place s is (ap (λ (u : Stmt). is_block_if u || is_arm u) same)), tt)
      by-form (ElseIf e) same none stays of of_inner test = (test_alike e (met stood (place + 1)) (when_false stood place) (met list (at place + 1)) (when_false list (at place)) (test e refl) (on (ap is_end same)) (stands-false us list laid c at held place s is (ap (λ (u : Stmt). is_block_if u || is_arm u) same)), tt)
      by-form EndIf same none stays of of_inner test = (pass_alike next next' (onward (ap is_end same)), tt)
      by-form End same none stays of of_inner test = (end_alike, tt)
      by-form (Do label variable first last step_by) same none stays of of_inner test =
          let does : is_do_to label s.stmt ≡ true = ap (is_do_to label) same ∙ eq-eqb label label refl in
          let number : AreCopiedLoops us list c at (loop_number stood place) (loop_number list (at place)) = record { place = place; s = s; is = is; does = ap is_do same; own = standing-number unit place; there = refl } in
          let body : Comes (index + 1) (index' + 1) = subst (λ (n : ℕ). Comes (n + 1) (index' + 1)) (sym (standing-first unit place)) (stands-body us list laid c at held place label s is does) in
          (start_alike label (loop_number stood place) (loop_number list (at place)) variable first last step_by (index + 1) (exit_of stood label place) (index' + 1) (exit_of list ((changes us c).end label) (at place)) of number body (stands-out us list laid c at held label place s is does), tt)
      by-form Program same none stays of of_inner test = tt
      by-form (Implicit a) same none stays of of_inner test = tt
      by-form ImplicitNone same none stays of of_inner test = tt
      by-form (TypeOf a b) same none stays of of_inner test = tt
      by-form (Dimension a) same none stays of of_inner test = tt
      by-form (Common a) same none stays of of_inner test = tt
      by-form (Equivalence a) same none stays of of_inner test = tt
      by-form (Init a) same none stays of of_inner test = tt
      by-form (Sub a b) same none stays of of_inner test = tt
      by-form Else same none stays of of_inner test = tt

    -- the executables of a statement that has one copy, but for STOP and RETURN
    pub own-alike : leaves (inner s.stmt) ≡ false → Of s.stmt → Of (inner s.stmt) → ((e : RawExpr) → condition_of s.stmt ≡ Some e → OfTest e)
        → ArePairwise Like (own_kinds names checked stood place (first_of stood place) (beyond stood place (standing s)) (stand_in s.stmt)) (own_kinds others checked list (at place) (first_of list (at place)) (beyond list (at place) (copy_of us c place s)) (changed_stmt (changes us c) s.stmt))
    own-alike stays of of_inner test = by-form (beyond stood place (standing s)) (beyond list (at place) (copy_of us c place s)) (plain-beyond us list laid c at held place s is plain) s.stmt refl plain.none stays of of_inner test
