-- What the executables of a statement do, those of its copy do.
use Rattle.std.proofs.Common.{◌≡◌, ℕ, zero, suc, ◌+◌, ◌<◌, ◌≤◌, Bool, true, false, List, [], ◌∷◌, ◌++◌, length, map, Some, refl, sym, ap, subst, ◌∙◌, arith}
use Rattle.std.specs.Prelude.{slice_get, slice_index}
use Rattle.std.proofs.lemmas.List.{length-map}
use Rattle.f77_tree.specs.declared.programs.ExecKind.{ExecKind}
use Rattle.f77_tree.specs.declared.programs.NameInfo.{NameInfo}
use Rattle.f77_tree.specs.declared.statements.Labelled.{Labelled}
use Rattle.f77_tree.specs.declared.statements.RawExpr.{RawExpr}
use Rattle.f77_tree.specs.declared.statements.Stmt.{Stmt}
use Rattle.f77_tree.specs.declared.statements.Stmt.TheVariants.{Assign, Print, Take, Continue, Stop, GoTo, PickGoTo, SignIf}
use Rattle.layout_rules.specs.Executables.{labelled, own_kinds, taking}
use Rattle.layout_rules.specs.Labels.{jumps}
use Rattle.layout_rules.specs.Tables.{is_simple}
use Rattle.program_units.specs.Copies.{Change, changed, changed_stmt}
use Rattle.called_runs.specs.CopiedKinds.{ArePairwise, IsCopyOf, assign_alike, take_alike, print_alike, pass_alike, sign_alike, pick_alike}
use Rattle.called_runs.specs.CopiedPositions.{leaves}

module _ (Of : Stmt → Type 0) (OfTest : RawExpr → Type 0) (N D : ℕ → ℕ → Type 0) (names others : List NameInfo) (checked : Bool) (x : Change) (stood list : List Labelled) where
  abbrev pub Like : ExecKind → ExecKind → Type 0
  Like = IsCopyOf Of OfTest N D names others checked x

  -- the jumps of a statement lead where its copy's do
  abbrev pub Jump : ℕ → Type 0
  Jump label = N (labelled stood label) (labelled list (x.jump label))

  -- ---- READ

  takes : (whole : List RawExpr) → Of (Take whole) → (next next' : ℕ) → N next next' → (targets : List RawExpr) (before index index' : ℕ) → ((k : ℕ) (t : RawExpr) → slice_get targets k ≡ Some t → slice_get whole (before + k) ≡ Some t) → ((k : ℕ) → k + 1 < length targets → N (index + (k + 1)) (index' + (k + 1)))
      → ArePairwise Like (taking names checked index next targets) (taking others checked index' next' (map (changed x) targets))
  takes whole of next next' n [] before index index' stand more = tt
  takes whole of next next' n (target ∷ []) before index index' stand more = (take_alike whole target (before + 0) next next' of (stand 0 target refl) n, tt)
  takes whole of next next' n (target ∷ another ∷ rest) before index index' stand more =
      let one : N (index + 1) (index' + 1) = subst (λ (d : ℕ). N (index + d) (index' + d)) (let e : 0 + 1 ≡ 1 = refl in e) (more 0 (omega arith)) in (
        take_alike whole target (before + 0) (index + 1) (index' + 1) of (stand 0 target refl) one,
        takes whole of next next' n (another ∷ rest) (before + 1) (index + 1) (index' + 1)
            (λ k t is. ap (λ (d : ℕ). slice_get whole d) (let e : before + 1 + k ≡ before + suc k = omega arith in e) ∙ stand (suc k) t is)
            (λ k below.
            let further = more (suc k) (omega (arith, below)) in
            subst (λ (d : ℕ). N d (index' + 1 + (k + 1))) (let e : index + (suc k + 1) ≡ index + 1 + (k + 1) = omega arith in e)
            (subst (λ (d : ℕ). N (index + (suc k + 1)) d) (let e : index' + (suc k + 1) ≡ index' + 1 + (k + 1) = omega arith in e) further)),
      )

  -- ---- computed GO TO

  picks : (y y' : ℕ) → N y y' → (labels : List ℕ) → ((j l : ℕ) → slice_get labels j ≡ Some l → Jump l) → (i : ℕ) → i ≤ length (map (labelled stood) labels) → N (slice_index (map (labelled stood) labels ++ y ∷ []) i) (slice_index (map (labelled list) (map x.jump labels) ++ y' ∷ []) i)
  picks y y' n [] each zero below = n
  picks y y' n [] each (suc i) below = absurd (omega (arith, below))
  picks y y' n (l ∷ labels) each zero below = each 0 l refl
  picks y y' n (l ∷ labels) each (suc i) below = picks y y' n labels (λ j k is. each (suc j) k is) i (omega (arith, below))

  -- ---- statements that may stand after a condition

  pub simple-alike : (place there : ℕ) (t : Stmt) → is_simple t ≡ true → leaves t ≡ false → Of t → (index next index' next' : ℕ) → N next next' → ((j l : ℕ) → slice_get (jumps t) j ≡ Some l → Jump l)
      → ((targets : List RawExpr) → t ≡ Take targets → (k : ℕ) → k + 1 < length targets → N (index + (k + 1)) (index' + (k + 1)))
      → ArePairwise Like (own_kinds names checked stood place index next t) (own_kinds others checked list there index' next' (changed_stmt x t))
  simple-alike place there (Assign target value) simple stays of index next index' next' n each more = (assign_alike target value next next' of n, tt)
  simple-alike place there (Print items) simple stays of index next index' next' n each more = (print_alike items next next' of n, tt)
  simple-alike place there (Take targets) simple stays of index next index' next' n each more = takes targets of next next' n targets 0 index index' (λ k t is. ap (λ (d : ℕ). slice_get targets d) (let e : 0 + k ≡ k = omega arith in e) ∙ is) (more targets refl)
  simple-alike place there Continue simple stays of index next index' next' n each more = (pass_alike next next' n, tt)
  simple-alike place there Stop simple stays of index next index' next' n each more = let e : true ≡ false = stays in absurd cc
  simple-alike place there (GoTo label) simple stays of index next index' next' n each more = (pass_alike (labelled stood label) (labelled list (x.jump label)) (each 0 label refl), tt)
  simple-alike place there (PickGoTo labels e) simple stays of index next index' next' n each more =
      let long : length (map (labelled stood) labels) ≡ length (map (labelled list) (map x.jump labels)) = length-map labels (labelled stood) ∙ sym (length-map (map x.jump labels) (labelled list) ∙ length-map labels x.jump) in
      (pick_alike e labels (map (labelled stood) labels) (map (labelled list) (map x.jump labels)) next next' of long (picks next next' n labels each), tt)
  simple-alike place there (SignIf e a b d) simple stays of index next index' next' n each more =
      (sign_alike e a b d (labelled stood a) (labelled stood b) (labelled stood d) (labelled list (x.jump a)) (labelled list (x.jump b)) (labelled list (x.jump d)) of (each 0 a refl) (each 1 b refl) (each 2 d refl), tt)
  simple-alike place there _ simple stays of index next index' next' n each more = let e : false ≡ true = simple in absurd cc
