-- The words before a name, name by name.
use Rattle.std.proofs.Common.{◌≡◌, ℕ, zero, suc, ◌+◌, Bool, true, false, cond, List, [], ◌∷◌, ◌++◌, refl, ap, ◌∙◌, arith}
use Rattle.std.specs.Prelude.{filter, sum_by, if◌then◌else◌}
use Rattle.std.specs.List.{range_with_len}
use Rattle.std.proofs.lemmas.List.Sums.{sum_by-append, sum_by-cons}
use Rattle.std.proofs.lemmas.List.Elements.{filter-append}
use Rattle.f77_tree.specs.declared.programs.NameInfo.{NameInfo}
use Rattle.layout_rules.specs.Storage.{Spot, words_of, is_storage, words_before}

range-more : (a n : ℕ) → range_with_len a (suc n) ≡ range_with_len a n ++ (a + n) ∷ []
range-more a zero = let e : a ≡ a + 0 = omega arith in ap (λ x. x ∷ []) e
range-more a (suc n) = let e : a + 1 + n ≡ a + suc n = omega arith in ap (λ xs. a ∷ xs) (range-more (a + 1) n ∙ ap (λ x. range_with_len (a + 1) n ++ x ∷ []) e)

module _ (names : List NameInfo) (spots : List Spot) where
  pub words_before-next : (k : ℕ) → words_before names spots (suc k) ≡ words_before names spots k + (if is_storage spots k then words_of names spots k else 0)
  words_before-next k =
      let f = words_of names spots in
      let p = is_storage spots in
      let rest : sum_by f (filter p (k ∷ [])) ≡ (if is_storage spots k then words_of names spots k else 0) = one (is_storage spots k) in
      ap (λ xs. sum_by f (filter p xs)) (range-more 0 k) ∙ ap (λ x. sum_by f (filter p (range_with_len 0 k ++ x ∷ []))) (omega arith) ∙ ap (sum_by f) (filter-append p (range_with_len 0 k) (k ∷ [])) ∙ sum_by-append f (filter p (range_with_len 0 k)) (filter p (k ∷ [])) ∙ ap (λ x. words_before names spots k + x) rest
    where
      one : (b : Bool) → sum_by (words_of names spots) (cond b (k ∷ []) []) ≡ cond b (words_of names spots k) 0
      one true = sum_by-cons (words_of names spots) k [] ∙ omega arith
      one false = refl
