-- Lists of which many items are replaced, seen by what stands at each place.
use Rattle.std.proofs.Common.{◌≡◌, ◌⊎◌, ◌<◌, ℕ, zero, suc, List, [], ◌∷◌, length, replicate, Option, Some, None, slice_get, slice_set, slice_index, refl, sym, ap, ◌∙◌, subst, inl, inr, arith}
use Rattle.list_laws.specs.Member.{Member}
use Rattle.net_board.proofs.ListPlaces.{put, get_set_same, get_set_other, length_slice_set, same_or_not, member_or_not}
use Rattle.op_board.specs.OperationTokens.{replaced}

module _ {X : Type 0} where
  put_put : (x y : X) (o : Option X) → put x (put y o) ≡ put x o
  put_put x y None = refl
  put_put x y (Some old) = refl

  pub replaced_other : (items : List X) (places : List ℕ) (item : ℕ → X) (k : ℕ) → (Member places k → ⊥) → slice_get (replaced items places item) k ≡ slice_get items k
  replaced_other items [] item k none = refl
  replaced_other items (place ∷ places) item k none =
      replaced_other (slice_set items place (item place)) places item k (λ m. none (inr m))
      ∙ get_set_other items place k (item place) (λ same. none (inl same))

  put_again : (items : List X) (place k : ℕ) (item : ℕ → X) → put (item k) (slice_get (slice_set items place (item place)) k) ≡ put (item k) (slice_get items k)
  put_again items place k item = by (same_or_not place k)
    where
      by : (place ≡ k) ⊎ (place ≡ k → ⊥) → put (item k) (slice_get (slice_set items place (item place)) k) ≡ put (item k) (slice_get items k)
      by (inl e) =
          subst (λ (p : ℕ). put (item k) (slice_get (slice_set items p (item p)) k) ≡ put (item k) (slice_get items k)) (sym e) (ap (put (item k)) (get_set_same items k (item k)) ∙ put_put (item k) (item k) (slice_get items k))
      by (inr n) = ap (put (item k)) (get_set_other items place k (item place) n)

  pub replaced_same : (items : List X) (places : List ℕ) (item : ℕ → X) (k : ℕ) → Member places k → slice_get (replaced items places item) k ≡ put (item k) (slice_get items k)
  replaced_same items [] item k m = absurd m
  replaced_same items (place ∷ places) item k (inr m) = replaced_same (slice_set items place (item place)) places item k m ∙ put_again items place k item
  replaced_same items (place ∷ places) item k (inl e) = by (replaced_same (slice_set items place (item place)) places item k) (member_or_not places k)
    where
      by : (Member places k → slice_get (replaced (slice_set items place (item place)) places item) k ≡ put (item k) (slice_get (slice_set items place (item place)) k)) → Member places k ⊎ (Member places k → ⊥) → slice_get (replaced items (place ∷ places) item) k ≡ put (item k) (slice_get items k)
      by again (inl m) = again m ∙ put_again items place k item
      by again (inr none) =
          replaced_other (slice_set items place (item place)) places item k none
          ∙ subst (λ (p : ℕ). slice_get (slice_set items p (item p)) k ≡ put (item k) (slice_get items k)) (sym e) (get_set_same items k (item k))

  pub length_replaced : (items : List X) (places : List ℕ) (item : ℕ → X) → length (replaced items places item) ≡ length items
  length_replaced items [] item = refl
  length_replaced items (place ∷ places) item = length_replaced (slice_set items place (item place)) places item ∙ length_slice_set items place (item place)

  -- ---- lists of one item

  pub get_replicate : (n k : ℕ) (x : X) → k < n → slice_get (replicate n x) k ≡ Some x
  get_replicate zero k x low = absurd (omega (arith, low))
  get_replicate (suc n) zero x low = refl
  get_replicate (suc n) (suc k) x low = get_replicate n k x (omega (arith, low))

  pub set_replicate : (n k : ℕ) (x : X) → slice_set (replicate n x) k x ≡ replicate n x
  set_replicate zero k x = refl
  set_replicate (suc n) zero x = refl
  set_replicate (suc n) (suc k) x = ap (λ rest. x ∷ rest) (set_replicate n k x)

pub index_is : (xs : List ℕ) (k n : ℕ) → slice_get xs k ≡ Some n → slice_index xs k ≡ n
index_is [] k n at = let e : None ≡ Some n = at in absurd cc
index_is (x ∷ xs) zero n at = same x n at
  where
    same : (a b : ℕ) → Some a ≡ Some b → a ≡ b
    same a b e = cc
index_is (x ∷ xs) (suc k) n at = index_is xs k n at
