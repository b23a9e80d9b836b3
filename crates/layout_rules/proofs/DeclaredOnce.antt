-- Names and words that no two declarations may give: where none is given twice, each stands in one place.
use Rattle.std.proofs.Common.{◌≡◌, ℕ, zero, suc, Bool, true, false, List, [], ◌∷◌, ◌++◌, Some, None, refl, sym, ap, subst, ◌∙◌}
use Rattle.std.specs.Prelude.{flat_map, slice_get}
use Rattle.std.specs.List.{list_any}
use Rattle.std.proofs.lemmas.Bool.{or_parts, or_from, true≢false}
use Rattle.std.proofs.lemmas.List.{append-nil}
use Rattle.std.proofs.lemmas.List.Concat.{flat_map-append}
use Rattle.std.proofs.lemmas.List.Folds.{list_any-append}
use Rattle.f77_tree.specs.declared.statements.Labelled.{Labelled}
use Rattle.layout_rules.specs.Faults.{first_after, has_repeat}
use Rattle.layout_rules.proofs.FirstLine.{has_repeat-append}
use Rattle.layout_rules.proofs.StorageLines.{after_clear, after_next}

module _ {A : Type 0} (same : A → A → Bool) where
  -- an item isn't among those before the list
  none_before : (seen xs : List A) (k : ℕ) (a : A) → has_repeat same seen xs ≡ false → slice_get xs k ≡ Some a → list_any (same a) seen ≡ false
  none_before seen [] k a once at = absurd cc
  none_before seen (x ∷ xs) zero a once at =
      let is : x ≡ a = cc in
      subst (λ y. list_any (same y) seen ≡ false) is (or_parts (list_any (same x) seen) (has_repeat same (seen ++ x ∷ []) xs) once).0
  none_before seen (x ∷ xs) (suc k) a once at =
      let later = none_before (seen ++ x ∷ []) xs k a (or_parts (list_any (same x) seen) (has_repeat same (seen ++ x ∷ []) xs) once).1 at in
      (or_parts (list_any (same a) seen) (list_any (same a) (x ∷ [])) (sym (list_any-append (same a) seen (x ∷ [])) ∙ later)).0

  module _ (reflexive : (a : A) → same a a ≡ true) where
    not_again : (seen xs : List A) (x : A) (k : ℕ) (a : A) → has_repeat same seen (x ∷ xs) ≡ false → Some x ≡ Some a → slice_get xs k ≡ Some a → ⊥
    not_again seen xs x k a once first at =
        let is : x ≡ a = cc in
        let later = subst (λ y. has_repeat same (seen ++ y ∷ []) xs ≡ false) is (or_parts (list_any (same x) seen) (has_repeat same (seen ++ x ∷ []) xs) once).1 in
        let none = none_before (seen ++ a ∷ []) xs k a later at in
        let here = (or_parts (list_any (same a) seen) (list_any (same a) (a ∷ [])) (sym (list_any-append (same a) seen (a ∷ [])) ∙ none)).1 in
        true≢false (sym (reflexive a) ∙ (or_parts (same a a) false here).0)

    -- an item stands in one place of a list without repeats
    pub one_place : (seen xs : List A) → has_repeat same seen xs ≡ false → (j k : ℕ) (a : A) → slice_get xs j ≡ Some a → slice_get xs k ≡ Some a → j ≡ k
    one_place seen [] once j k a at_j at_k = absurd cc
    one_place seen (x ∷ xs) once zero zero a at_j at_k = refl
    one_place seen (x ∷ xs) once zero (suc k) a at_j at_k = absurd (not_again seen xs x k a once at_j at_k)
    one_place seen (x ∷ xs) once (suc j) zero a at_j at_k = absurd (not_again seen xs x j a once at_k at_j)
    one_place seen (x ∷ xs) once (suc j) (suc k) a at_j at_k =
        ap suc (one_place (seen ++ x ∷ []) xs (or_parts (list_any (same x) seen) (has_repeat same (seen ++ x ∷ []) xs) once).1 j k a at_j at_k)

  -- where no statement gives an item again, no item is given twice
  pub once_in_all : (fault : List Labelled → Labelled → Bool) (give : Labelled → List A) → ((above : List Labelled) (s : Labelled) → fault above s ≡ false → has_repeat same (flat_map give above) (give s) ≡ false)
      → (above stmts : List Labelled) → first_after fault above stmts ≡ None → has_repeat same (flat_map give above) (flat_map give stmts) ≡ false
  once_in_all fault give clear above [] none = refl
  once_in_all fault give clear above (s ∷ rest) none =
      let here = after_clear fault above rest s none in
      let later = once_in_all fault give clear (above ++ s ∷ []) rest (sym (after_next fault above rest s here) ∙ none) in
      let longer : flat_map give (above ++ s ∷ []) ≡ flat_map give above ++ give s = flat_map-append give above (s ∷ []) ∙ ap (λ (xs : List A). flat_map give above ++ xs) (append-nil (give s)) in
      has_repeat-append same (flat_map give above) (give s) (flat_map give rest)
      ∙ or_from (has_repeat same (flat_map give above) (give s)) (has_repeat same (flat_map give above ++ give s) (flat_map give rest)) (clear above s here) (ap (λ (xs : List A). has_repeat same xs (flat_map give rest)) (sym longer) ∙ later)
