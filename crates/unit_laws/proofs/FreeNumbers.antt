-- Numbers of which each has a text of its own: at most as many of them are taken as there are texts taken.
use Rattle.std.proofs.Common.{◌≡◌, ℕ, zero, suc, ◌+◌, ◌<◌, ◌≤◌, Bool, true, false, not, ◌||◌, cond, List, [], ◌∷◌, length, filter, Some, None, refl, sym, ap, subst, ◌∙◌, arith}
use Rattle.std.specs.Prelude.{bytes_eq}
use Rattle.std.specs.List.{list_any, slice_get, range_with_len}
use Rattle.std.proofs.lemmas.Slice.Eq.{bytes_eq-Decides}

-- ---- numbers of a range that pass a test

pub passing : (p : ℕ → Bool) (xs : List ℕ) (i m : ℕ) → slice_get (filter p xs) i ≡ Some m → p m ≡ true
passing p [] i m is = let e : None ≡ Some m = is in absurd cc
passing p (x ∷ xs) i m is = by_test (p x) refl i is (λ j there. passing p xs j m there)
  where
    by_test : (b : Bool) → p x ≡ b → (i : ℕ) → slice_get (cond b (x ∷ filter p xs) (filter p xs)) i ≡ Some m → ((j : ℕ) → slice_get (filter p xs) j ≡ Some m → p m ≡ true) → p m ≡ true
    by_test true passes zero here later = let e : Some x ≡ Some m = here in let same : x ≡ m = cc in subst (λ (n : ℕ). p n ≡ true) same passes
    by_test true passes (suc i) here later = later i here
    by_test false fails i here later = later i here

pub record IsWithin (a n m : ℕ) : Type 0 where
  pub least : a ≤ m
  pub below : m < a + n

pub within : (p : ℕ → Bool) (a n i m : ℕ) → slice_get (filter p (range_with_len a n)) i ≡ Some m → IsWithin a n m
within p a zero i m is = let e : None ≡ Some m = is in absurd cc
within p a (suc n) i m is = by_test (p a) i is (λ j here. let w = within p (a + 1) n j m here in let l = w.least in let b = w.below in record { least = omega (arith, l); below = omega (arith, b) })
  where
    by_test : (b : Bool) → (i : ℕ) → slice_get (cond b (a ∷ filter p (range_with_len (a + 1) n)) (filter p (range_with_len (a + 1) n))) i ≡ Some m → ((j : ℕ) → slice_get (filter p (range_with_len (a + 1) n)) j ≡ Some m → IsWithin a (suc n) m) → IsWithin a (suc n) m
    by_test true zero here later = let e : Some a ≡ Some m = here in let same : a ≡ m = cc in record { least = omega (arith, same); below = omega (arith, same) }
    by_test true (suc i) here later = later i here
    by_test false i here later = later i here

pub one-place : (p : ℕ → Bool) (a n i j m : ℕ) → slice_get (filter p (range_with_len a n)) i ≡ Some m → slice_get (filter p (range_with_len a n)) j ≡ Some m → i ≡ j
one-place p a zero i j m is other = let e : None ≡ Some m = is in absurd cc
one-place p a (suc n) i j m is other = by_test (p a) i j is other (λ k l here there. one-place p (a + 1) n k l m here there)
  where
    not-first : (k : ℕ) → Some a ≡ Some m → slice_get (filter p (range_with_len (a + 1) n)) k ≡ Some m → ⊥
    not-first k first later = let same : a ≡ m = cc in let w = within p (a + 1) n k m later in let l = w.least in omega (arith, same, l)

    by_test : (b : Bool) → (i j : ℕ) → slice_get (cond b (a ∷ filter p (range_with_len (a + 1) n)) (filter p (range_with_len (a + 1) n))) i ≡ Some m
        → slice_get (cond b (a ∷ filter p (range_with_len (a + 1) n)) (filter p (range_with_len (a + 1) n))) j ≡ Some m
        → ((k l : ℕ) → slice_get (filter p (range_with_len (a + 1) n)) k ≡ Some m → slice_get (filter p (range_with_len (a + 1) n)) l ≡ Some m → k ≡ l) → i ≡ j
    by_test true zero zero here there later = refl
    by_test true zero (suc j) here there later = absurd (not-first j here there)
    by_test true (suc i) zero here there later = absurd (not-first i there here)
    by_test true (suc i) (suc j) here there later = ap suc (later i j here there)
    by_test false i j here there later = later i j here there

-- ---- a test that at most one number passes

module _ (top : ℕ) (A B : ℕ → Bool) (once : (m n : ℕ) → m < top → n < top → A m ≡ true → A n ≡ true → m ≡ n) where
  abbrev left : List ℕ → List ℕ
  left xs = filter (λ m. not (B m)) xs

  abbrev left_without : List ℕ → List ℕ
  left_without xs = filter (λ m. not (A m || B m)) xs

  none-lost : (a n hit : ℕ) → a + n ≤ top → hit < a → A hit ≡ true → length (left (range_with_len a n)) ≤ length (left_without (range_with_len a n))
  none-lost a zero hit fits below is = omega arith
  none-lost a (suc n) hit fits below is = by_test (A a) (B a) refl (none-lost (a + 1) n hit (omega (arith, fits)) (omega (arith, below)) is)
    where
      by_test : (x y : Bool) → A a ≡ x → length (left (range_with_len (a + 1) n)) ≤ length (left_without (range_with_len (a + 1) n))
          → length (cond (not y) (a ∷ left (range_with_len (a + 1) n)) (left (range_with_len (a + 1) n))) ≤ length (cond (not (x || y)) (a ∷ left_without (range_with_len (a + 1) n)) (left_without (range_with_len (a + 1) n)))
      by_test true y again more = let same : hit ≡ a = once hit a (omega (arith, fits, below)) (omega (arith, fits)) is again in absurd (omega (arith, same, below))
      by_test false true misses more = more
      by_test false false misses more = omega (arith, more)

  pub one-lost : (a n : ℕ) → a + n ≤ top → length (left (range_with_len a n)) ≤ suc (length (left_without (range_with_len a n)))
  one-lost a zero fits = omega arith
  one-lost a (suc n) fits = by_test (A a) (B a) refl (one-lost (a + 1) n (omega (arith, fits)))
    where
      by_test : (x y : Bool) → A a ≡ x → length (left (range_with_len (a + 1) n)) ≤ suc (length (left_without (range_with_len (a + 1) n)))
          → length (cond (not y) (a ∷ left (range_with_len (a + 1) n)) (left (range_with_len (a + 1) n))) ≤ suc (length (cond (not (x || y)) (a ∷ left_without (range_with_len (a + 1) n)) (left_without (range_with_len (a + 1) n))))
      by_test true true hits more = let least = none-lost (a + 1) n a (omega (arith, fits)) (omega arith) hits in omega (arith, least)
      by_test true false hits more = let least = none-lost (a + 1) n a (omega (arith, fits)) (omega arith) hits in omega (arith, least)
      by_test false true misses more = more
      by_test false false misses more = omega (arith, more)

-- ---- texts of numbers

module _ (f : ℕ → List ℕ) (top : ℕ) (apart : (m n : ℕ) → m < top → n < top → f m ≡ f n → m ≡ n) where
  abbrev pub is_free : (used : List (List ℕ)) → ℕ → Bool
  is_free used m = not (list_any (bytes_eq (f m)) used)

  pub enough : (used : List (List ℕ)) (a n : ℕ) → a + n ≤ top → n ≤ length (filter (is_free used) (range_with_len a n)) + length used
  enough [] a zero fits = omega arith
  enough [] a (suc n) fits = let more = enough [] (a + 1) n (omega (arith, fits)) in omega (arith, more)
  enough (u ∷ used) a n fits =
      let once : (k m : ℕ) → k < top → m < top → bytes_eq (f k) u ≡ true → bytes_eq (f m) u ≡ true → k ≡ m = λ k m low high first second.
      apart k m low high ((bytes_eq-Decides (f k) u).0 first ∙ sym ((bytes_eq-Decides (f m) u).0 second)) in
      let more = enough used a n fits in
      let lost = one-lost top (λ m. bytes_eq (f m) u) (λ m. list_any (bytes_eq (f m)) used) once a n fits in
      omega (arith, more, lost)
