-- Statements none of which has a fault.
use Rattle.std.proofs.Common.{◌≡◌, ℕ, zero, suc, ◌<◌, Bool, false, List, [], ◌∷◌, ◌++◌, take, refl, sym, ap, ◌∙◌, arith, Some, None, append_assoc, append-nil, cond, ◌||◌}
use Rattle.std.specs.Prelude.{flat_map, slice_get}
use Rattle.std.specs.List.{list_any}
use Rattle.std.proofs.lemmas.List.Folds.{list_any-append}
use Rattle.f77_tree.specs.declared.statements.Labelled.{Labelled}
use Rattle.layout_rules.specs.Faults.{first_after, first_line}

none_after : (fault : List Labelled → Labelled → Bool) (above stmts : List Labelled) → ((k : ℕ) (s : Labelled) → slice_get stmts k ≡ Some s → fault (above ++ take k stmts) s ≡ false) → first_after fault above stmts ≡ None
none_after fault above [] none = refl
none_after fault above (s ∷ rest) none =
    let here : fault above s ≡ false = ap (λ xs. fault xs s) (sym (append-nil above)) ∙ none 0 s refl in
    let next : (k : ℕ) (t : Labelled) → slice_get rest k ≡ Some t → fault ((above ++ s ∷ []) ++ take k rest) t ≡ false =
    λ k t is. ap (λ xs. fault xs t) (append_assoc above (s ∷ []) (take k rest)) ∙ none (suc k) t is
    in
    ap (λ b. cond b (Some s.line) (first_after fault (above ++ s ∷ []) rest)) here ∙ none_after fault (above ++ s ∷ []) rest next

-- no statement has the fault
pub none_faulty : (fault : List Labelled → Labelled → Bool) (stmts : List Labelled) → ((k : ℕ) (s : Labelled) → slice_get stmts k ≡ Some s → fault (take k stmts) s ≡ false) → first_line fault stmts ≡ None
none_faulty fault stmts none = none_after fault [] stmts none

-- none of the first ones passes
pub none_above : {X : Type 0} (p : X → Bool) (xs : List X) (k : ℕ) → ((j : ℕ) (x : X) → j < k → slice_get xs j ≡ Some x → p x ≡ false) → list_any p (take k xs) ≡ false
none_above p [] zero none = refl
none_above p [] (suc k) none = refl
none_above p (x ∷ xs) zero none = refl
none_above p (x ∷ xs) (suc k) none =
    ap (λ b. b || list_any p (take k xs)) (none 0 x (omega arith) refl) ∙ none_above p xs k (λ j y lt is. none (suc j) y (omega (arith, lt)) is)

-- none passes
pub none_passes : {X : Type 0} (p : X → Bool) (xs : List X) → ((j : ℕ) (x : X) → slice_get xs j ≡ Some x → p x ≡ false) → list_any p xs ≡ false
none_passes p [] none = refl
none_passes p (x ∷ xs) none = ap (λ b. b || list_any p xs) (none 0 x refl) ∙ none_passes p xs (λ j y is. none (suc j) y is)

-- nothing that the first ones give passes
pub none_above_flat : {X Y : Type 0} (p : Y → Bool) (f : X → List Y) (xs : List X) (k : ℕ) → ((j : ℕ) (x : X) → j < k → slice_get xs j ≡ Some x → list_any p (f x) ≡ false) → list_any p (flat_map f (take k xs)) ≡ false
none_above_flat p f [] zero none = refl
none_above_flat p f [] (suc k) none = refl
none_above_flat p f (x ∷ xs) zero none = refl
none_above_flat p f (x ∷ xs) (suc k) none =
    list_any-append p (f x) (flat_map f (take k xs))
    ∙ ap (λ b. b || list_any p (flat_map f (take k xs))) (none 0 x (omega arith) refl)
    ∙ none_above_flat p f xs k (λ j y lt is. none (suc j) y (omega (arith, lt)) is)
