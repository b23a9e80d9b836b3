-- Lists that grow at their ends, and what is found for each number.
use Rattle.std.proofs.Common.{◌≡◌, ◌<◌, ◌⊎◌, ⊎_elim, inl, inr, ℕ, zero, suc, ◌+◌, List, [], ◌∷◌, ◌++◌, length, get_or, slice_get, Some, map, flat_map, refl, sym, ap, ◌∙◌, arith, Result, Ok, Err}
use Rattle.std.specs.Prelude.{OnOk}
use Rattle.std.specs.List.{range_with_len}
use Rattle.std.proofs.lemmas.List.{append-nil}
use Rattle.std.proofs.lemmas.List.FromFn.{map-range_with_len_more, length-map-range_with_len, get_or-map-range_with_len}
use Rattle.std.proofs.lemmas.Grind.{flat_map-append}
use Rattle.std.proofs.lemmas.Option.{slice_get_read}
use Rattle.list_laws.proofs.Ranges.{range_more}

module _ {X : Type 0} where
  -- what stands before the end stays there
  pub get_before : (xs ys : List X) (k : ℕ) → k < length xs → slice_get (xs ++ ys) k ≡ slice_get xs k
  get_before [] ys k below = absurd (omega (arith, below))
  get_before (x ∷ xs) ys zero below = refl
  get_before (x ∷ xs) ys (suc k) below = get_before xs ys k (omega (arith, below))

  pub get_end : (xs : List X) (x : X) (k : ℕ) → k ≡ length xs → slice_get (xs ++ x ∷ []) k ≡ Some x
  get_end [] x zero is = refl
  get_end [] x (suc k) is = absurd (omega (arith, is))
  get_end (y ∷ ys) x zero is = absurd (omega (arith, is))
  get_end (y ∷ ys) x (suc k) is = get_end ys x k (omega (arith, is))

  -- what stands in a list with one item more at its end
  pub get_last : (xs : List X) (x y : X) (k : ℕ) → slice_get (xs ++ x ∷ []) k ≡ Some y → (slice_get xs k ≡ Some y) ⊎ ((k ≡ length xs) × (x ≡ y))
  get_last [] x y zero is = let same : x ≡ y = cc in inr (refl, same)
  get_last [] x y (suc k) is = absurd cc
  get_last (z ∷ zs) x y zero is = inl is
  get_last (z ∷ zs) x y (suc k) is = ⊎_elim (λ l. inl l) (λ (r : (k ≡ length zs) × (x ≡ y)). inr (ap suc r.0, r.1)) (get_last zs x y k is)

  -- what stands at a place inside
  pub get_some : (xs : List X) (k : ℕ) → k < length xs → (x : X) × (slice_get xs k ≡ Some x)
  get_some [] k below = absurd (omega (arith, below))
  get_some (x ∷ xs) zero below = (x, refl)
  get_some (x ∷ xs) (suc k) below = get_some xs k (omega (arith, below))

  -- an item of a loop over a list
  pub item_at : (xs items : List X) (k : ℕ) (x : X) → items ≡ xs → k < length items → x ≡ get_or items k x → slice_get xs k ≡ Some x
  item_at xs items k x same lt is = ap (λ (ys : List X). slice_get ys k) (sym same) ∙ slice_get_read items (length items) k x refl lt is

  pub append_more : (xs ys : List X) (y : X) → (xs ++ ys) ++ y ∷ [] ≡ xs ++ (ys ++ y ∷ [])
  append_more [] ys y = refl
  append_more (x ∷ xs) ys y = ap (λ zs. x ∷ zs) (append_more xs ys y)

  pub append_assoc : (xs ys zs : List X) → (xs ++ ys) ++ zs ≡ xs ++ (ys ++ zs)
  append_assoc [] ys zs = refl
  append_assoc (x ∷ xs) ys zs = ap (λ ws. x ∷ ws) (append_assoc xs ys zs)

-- ---- what is found for each number

module _ {X : Type 0} (f : ℕ → X) where
  pub mapped_more : (all new : List X) (n : ℕ) (x : X) → all ≡ map f (range_with_len 0 n) → x ≡ f n → new ≡ all ++ x ∷ [] → new ≡ map f (range_with_len 0 (n + 1))
  mapped_more all new n x so is are =
      are ∙ ap (λ xs. xs ++ x ∷ []) so ∙ ap (λ y. map f (range_with_len 0 n) ++ y ∷ []) is ∙ sym (map-range_with_len_more f 0 n n (Rattle.std.proofs.Common.zero-add n))

  pub mapped_length : (xs : List X) (n : ℕ) → xs ≡ map f (range_with_len 0 n) → length xs ≡ n
  mapped_length xs n are = ap length are ∙ length-map-range_with_len f 0 n

  pub mapped_at : (xs : List X) (n i : ℕ) (d : X) → xs ≡ map f (range_with_len 0 n) → i < n → get_or xs i d ≡ f i
  mapped_at xs n i d are below = ap (λ ys. get_or ys i d) are ∙ get_or-map-range_with_len f 0 n i i d below (Rattle.std.proofs.Common.zero-add i)

  -- one number more after what stood there
  pub named_more : (old now : List X) (from n j : ℕ) → from + n ≡ j → now ≡ old ++ map f (range_with_len from n) → now ++ f j ∷ [] ≡ old ++ map f (range_with_len from (n + 1))
  named_more old now from n j is so =
      ap (λ xs. xs ++ f j ∷ []) so
      ∙ append_more old (map f (range_with_len from n)) (f j)
      ∙ ap (λ xs. old ++ xs) (sym (map-range_with_len_more f from n j is))

-- the lists of the numbers below one, one number further
pub flat_map_next : {Y : Type 0} (f : ℕ → List Y) (n : ℕ) → flat_map f (range_with_len 0 (n + 1)) ≡ flat_map f (range_with_len 0 n) ++ f n
flat_map_next f n = ap (flat_map f) (range_more n) ∙ flat_map-append f (range_with_len 0 n) (n ∷ []) ∙ ap (λ xs. flat_map f (range_with_len 0 n) ++ xs) (append-nil (f n))

-- ---- numbers in a row

pub range_split : (a n m : ℕ) → range_with_len a (n + m) ≡ range_with_len a n ++ range_with_len (a + n) m
range_split a zero m =
    let none : 0 + m ≡ m = omega arith in
    let here : a + 0 ≡ a = omega arith in
    ap (range_with_len a) none ∙ ap (λ k. range_with_len k m) (sym here)
range_split a (suc n) m =
    let more : suc n + m ≡ suc (n + m) = omega arith in
    let next : (a + 1) + n ≡ a + suc n = omega arith in
    ap (range_with_len a) more ∙ ap (λ xs. a ∷ xs) (range_split (a + 1) n m ∙ ap (λ k. range_with_len (a + 1) n ++ range_with_len k m) next)

-- the lists of so many numbers: those of the numbers below one of them, its own, and those of the numbers above it
pub rows_split : {Y : Type 0} (f : ℕ → List Y) (k m n : ℕ) → n ≡ k + suc m → flat_map f (range_with_len 0 n) ≡ flat_map f (range_with_len 0 k) ++ (f k ++ flat_map f (range_with_len (k + 1) m))
rows_split f k m n is =
    let none : 0 + k ≡ k = omega arith in
    ap (λ j. flat_map f (range_with_len 0 j)) is
    ∙ ap (flat_map f) (range_split 0 k (suc m))
    ∙ flat_map-append f (range_with_len 0 k) (range_with_len (0 + k) (suc m))
    ∙ ap (λ j. flat_map f (range_with_len 0 k) ++ flat_map f (range_with_len j (suc m))) none

-- what follows where a call answers Ok
pub OnOk-then : {X E A B : Type 0} (r : Result X E) → (A → B) → OnOk r A → OnOk r B
OnOk-then (Ok x) f a = f a
OnOk-then (Err e) f a = tt
