-- Lists seen from the beginning.
use Rattle.std.proofs.Common.{◌≡◌, ℕ, zero, suc, ◌+◌, ◌<◌, Bool, true, false, cond, List, [], ◌∷◌, ◌++◌, length, take, flat_map, filter, Some, None, slice_get, refl, ap, subst, inl, inr, ⊎_elim, arith}
use Rattle.std.specs.List.{range_with_len}
use Rattle.list_laws.specs.Member.{Member}
use Rattle.list_laws.proofs.Members.{Member-filtered, Member-in_range}

module _ {X : Type 0} where
  pub take_more : (xs : List X) (j : ℕ) (x : X) → slice_get xs j ≡ Some x → take (suc j) xs ≡ take j xs ++ (x ∷ [])
  take_more [] j x at = let e : None ≡ Some x = at in absurd cc
  take_more (y ∷ xs) zero x at = by at
    where
      by : Some y ≡ Some x → (y ∷ take 0 xs) ≡ (x ∷ [])
      by same = cc
  take_more (y ∷ xs) (suc j) x at = ap (λ rest. y ∷ rest) (take_more xs j x at)

  pub take_whole : (xs : List X) → take (length xs) xs ≡ xs
  take_whole [] = refl
  take_whole (x ∷ xs) = ap (λ rest. x ∷ rest) (take_whole xs)

  pub member_at : (xs : List X) (j : ℕ) (x : X) → slice_get xs j ≡ Some x → Member xs x
  member_at [] j x at = let e : None ≡ Some x = at in absurd cc
  member_at (y ∷ xs) zero x at = by at
    where
      by : Some y ≡ Some x → Member (y ∷ xs) x
      by same = inl cc
  member_at (y ∷ xs) (suc j) x at = inr (member_at xs j x at)

  pub below_length : (xs : List X) (j : ℕ) (x : X) → slice_get xs j ≡ Some x → j < length xs
  below_length [] j x at = let e : None ≡ Some x = at in absurd cc
  below_length (y ∷ xs) zero x at = omega arith
  below_length (y ∷ xs) (suc j) x at = let h = below_length xs j x at in omega (arith, h)

  pub record HasItem (xs : List X) (j : ℕ) : Type 0 where
    pub item : X
    pub at : slice_get xs j ≡ Some item

  pub item_at : (xs : List X) (j : ℕ) → j < length xs → HasItem xs j
  item_at [] j below = absurd (omega (arith, below))
  item_at (x ∷ xs) zero below = record { item = x; at = refl }
  item_at (x ∷ xs) (suc j) below = let r : HasItem xs j = item_at xs j (omega (arith, below)) in record { item = r.item; at = r.at }

  pub get_left : (xs ys : List X) (j : ℕ) (x : X) → slice_get xs j ≡ Some x → slice_get (xs ++ ys) j ≡ Some x
  get_left [] ys j x at = let e : None ≡ Some x = at in absurd cc
  get_left (z ∷ xs) ys zero x at = at
  get_left (z ∷ xs) ys (suc j) x at = get_left xs ys j x at

  pub get_right : (xs ys : List X) (j : ℕ) (x : X) → slice_get ys j ≡ Some x → slice_get (xs ++ ys) (length xs + j) ≡ Some x
  get_right [] ys j x at = subst (λ (k : ℕ). slice_get ys k ≡ Some x) (omega arith) at
  get_right (z ∷ xs) ys j x at =
      let e : suc (length xs + j) ≡ suc (length xs) + j = omega arith in
      subst (λ (k : ℕ). slice_get (z ∷ (xs ++ ys)) k ≡ Some x) e (get_right xs ys j x at)

  pub get_flat : (f : ℕ → List X) (a n i j : ℕ) (x : X) → i < n → slice_get (f (a + i)) j ≡ Some x → slice_get (flat_map f (range_with_len a n)) (length (flat_map f (range_with_len a i)) + j) ≡ Some x
  get_flat f a zero i j x below at = absurd (omega (arith, below))
  get_flat f a (suc n) zero j x below at =
      let same : a + 0 ≡ a = omega arith in
      let here : slice_get (f a) j ≡ Some x = subst (λ (b : ℕ). slice_get (f b) j ≡ Some x) same at in
      let e : j ≡ 0 + j = omega arith in
      subst (λ (k : ℕ). slice_get (f a ++ flat_map f (range_with_len (a + 1) n)) k ≡ Some x) e (get_left (f a) (flat_map f (range_with_len (a + 1) n)) j x here)
  get_flat f a (suc n) (suc i) j x below at =
      let same : a + suc i ≡ a + 1 + i = omega arith in
      let there : slice_get (f (a + 1 + i)) j ≡ Some x = subst (λ (b : ℕ). slice_get (f b) j ≡ Some x) same at in
      let rest = get_flat f (a + 1) n i j x (omega (arith, below)) there in
      let first = f a in
      let ys = flat_map f (range_with_len (a + 1) i) in
      let long : length (first ++ ys) ≡ length first + length ys = Rattle.std.proofs.Common.length-append first ys in
      let e : length first + (length ys + j) ≡ length (first ++ ys) + j = omega (arith, long) in
      subst (λ (k : ℕ). slice_get (first ++ flat_map f (range_with_len (a + 1) n)) k ≡ Some x) e (get_right first (flat_map f (range_with_len (a + 1) n)) (length ys + j) x rest)

-- ---- numbers that pass a test, in their order

prefix_not : (b : Bool) (a : ℕ) (rest : List ℕ) (l : ℕ) → ((i : ℕ) → slice_get rest i ≡ Some l → Member (take i rest) l → ⊥) → (Member rest l → a ≡ l → ⊥) → (j : ℕ) → slice_get (cond b (a ∷ rest) rest) j ≡ Some l → Member (take j (cond b (a ∷ rest) rest)) l → ⊥
prefix_not true a rest l later first zero at m = m
prefix_not true a rest l later first (suc i) at m = ⊎_elim (λ (same : a ≡ l). first (member_at rest i l at) same) (λ (r : Member (take i rest) l). later i at r) m
prefix_not false a rest l later first j at m = later j at m

-- none of them stands before itself
pub not_before : (test : ℕ → Bool) (a n l j : ℕ) → slice_get (filter test (range_with_len a n)) j ≡ Some l → Member (take j (filter test (range_with_len a n))) l → ⊥
not_before test a zero l j at m = let e : None ≡ Some l = at in absurd cc
not_before test a (suc n) l j at m =
    prefix_not (test a) a (filter test (range_with_len (a + 1) n)) l (not_before test (a + 1) n l)
    (λ r same.
    let inside = Member-in_range (a + 1) n l (Member-filtered test (range_with_len (a + 1) n) l r).0 in
    let low = inside.0 in
    omega (arith, low, same))
    j at m
