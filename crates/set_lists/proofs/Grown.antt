-- A list of sets with one set more.
use Rattle.std.proofs.Common.{◌≡◌, ◌<◌, ◌*◌, Bool, true, false, if◌then◌else◌, ◌⊎◌, ⊎_elim, ℕ, zero, suc, List, [], ◌∷◌, ◌++◌, length, get_or, Option, None, Some, slice_get, refl, sym, ap, ◌∙◌, subst, inl, inr, arith}
use Rattle.std.proofs.lemmas.Option.{slice_get_read}
use Rattle.class_set.specs.declared.ClassSet.{ClassSet}
use Rattle.set_lists.specs.declared.lists.Members.{Members}
use Rattle.set_lists.specs.declared.lists.Members.TheVariants.{Nothing, One, Shared}
use Rattle.set_lists.specs.Kept.{AreMore, IsThere, test_by, test_in, test_of}

module _ {X : Type 0} where
  get_before : (xs ys : List X) (k : ℕ) → k < length xs → slice_get (xs ++ ys) k ≡ slice_get xs k
  get_before [] ys k below = absurd (omega (arith, below))
  get_before (x ∷ xs) ys zero below = refl
  get_before (x ∷ xs) ys (suc k) below = get_before xs ys k (omega (arith, below))

  get_end : (xs : List X) (x : X) → slice_get (xs ++ x ∷ []) (length xs) ≡ Some x
  get_end [] x = refl
  get_end (y ∷ ys) x = get_end ys x

  get_last : (xs : List X) (x y : X) (k : ℕ) → slice_get (xs ++ x ∷ []) k ≡ Some y → (slice_get xs k ≡ Some y) ⊎ (x ≡ y)
  get_last [] x y zero at = inr cc
  get_last [] x y (suc k) at = absurd cc
  get_last (z ∷ xs) x y zero at = inl at
  get_last (z ∷ xs) x y (suc k) at = get_last xs x y k at

module _ {W : ℕ} (old new : List (ClassSet W)) (more : AreMore old new) (items items' : List Members) (item : Members) (are : items' ≡ items ++ item ∷ []) where
  ones_kept : IsThere W (length new) item → ((i n : ℕ) → slice_get items i ≡ Some (One n) → n < 64 * W) → (i n : ℕ) → slice_get items' i ≡ Some (One n) → n < 64 * W
  ones_kept there ones i n at = ⊎_elim
      (λ (before : slice_get items i ≡ Some (One n)). ones i n before)
      (λ (last : item ≡ One n). subst (IsThere W (length new)) last there)
      (get_last items item (One n) i (ap (λ xs. slice_get xs i) (sym are) ∙ at))

  exist_kept : IsThere W (length new) item → ((i n : ℕ) → slice_get items i ≡ Some (Shared n) → n < length old) → (i n : ℕ) → slice_get items' i ≡ Some (Shared n) → n < length new
  exist_kept there exist i n at = ⊎_elim
      (λ (before : slice_get items i ≡ Some (Shared n)). let low = exist i n before in let longer = more.longer in omega (arith, low, longer))
      (λ (last : item ≡ Shared n). subst (IsThere W (length new)) last there)
      (get_last items item (Shared n) i (ap (λ xs. slice_get xs i) (sym are) ∙ at))

  pub last_test : (k : ℕ) → test_by new (slice_get items' (length items)) k ≡ test_of new item k
  last_test k = ap (λ o. test_by new o k) (ap (λ xs. slice_get xs (length items)) are ∙ get_end items item)

  pub other_tests : ((i n : ℕ) → slice_get items i ≡ Some (Shared n) → n < length old) → (i k : ℕ) → i < length items → test_by new (slice_get items' i) k ≡ test_by old (slice_get items i) k
  other_tests exist i k low = ap (λ o. test_by new o k) (ap (λ xs. slice_get xs i) are ∙ get_before items (item ∷ []) i low) ∙ same (slice_get items i) refl
    where
      same : (o : Option Members) → slice_get items i ≡ o → test_by new o k ≡ test_by old o k
      same None at = refl
      same (Some Nothing) at = refl
      same (Some (One n)) at = refl
      same (Some (Shared n)) at = ap (λ s. test_in s k) (more.same n (exist i n at))

-- what is read at a place is there
pub read_test : {W : ℕ} (shared : List (ClassSet W)) (items : List Members) (i k : ℕ) (item : Members) → i < length items → item ≡ get_or items i item → test_of shared item k ≡ test_by shared (slice_get items i) k
read_test shared items i k item low read = ap (λ o. test_by shared o k) (sym (slice_get_read items (length items) i item refl low read))

-- the same where the set may not have been put there
module _ {W : ℕ} (old new : List (ClassSet W)) (more : AreMore old new) (items : List Members) (item : Members) (there : IsThere W (length new) item) where
  pub ones_either : (done : Bool) (items' : List Members) → items' ≡ (if done then items ++ item ∷ [] else items) → ((i n : ℕ) → slice_get items i ≡ Some (One n) → n < 64 * W) → (i n : ℕ) → slice_get items' i ≡ Some (One n) → n < 64 * W
  ones_either true items' are ones = ones_kept old new more items items' item are there ones
  ones_either false items' are ones = λ i n at. ones i n (ap (λ xs. slice_get xs i) (sym are) ∙ at)

  pub exist_either : (done : Bool) (items' : List Members) → items' ≡ (if done then items ++ item ∷ [] else items) → ((i n : ℕ) → slice_get items i ≡ Some (Shared n) → n < length old) → (i n : ℕ) → slice_get items' i ≡ Some (Shared n) → n < length new
  exist_either true items' are exist = exist_kept old new more items items' item are there exist
  exist_either false items' are exist = λ i n at. let low = exist i n (ap (λ xs. slice_get xs i) (sym are) ∙ at) in let longer = more.longer in omega (arith, low, longer)
