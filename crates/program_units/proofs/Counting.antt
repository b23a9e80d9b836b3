-- Elements that pass a test: where one is, and how many there are.
use Rattle.std.proofs.Common.{◌≡◌, ℕ, zero, suc, ◌<◌, ◌≤◌, Bool, true, false, cond, ◌||◌, List, [], ◌∷◌, length, get_or, count_by, refl, arith, ◌+◌, ⊎_elim, not, ◌++◌, nat_lt, sym, ap, ◌∙◌}
use Rattle.std.specs.List.{list_any, position_or_len, range_with_len}
use Rattle.std.proofs.lemmas.List.Sums.{sum_by-cons}
use Rattle.std.proofs.lemmas.Bool.{cases_Bool, le-ltb, lt-ltb, ltb-false, ltb-true}

-- an element that passes
pub record Found {X : Type 0} (p : X → Bool) (d : X) (xs : List X) : Type 0 where
  pub index : ℕ
  pub inside : index < length xs
  pub passes : p (get_or xs index d) ≡ true

found_head : {X : Type 0} (p : X → Bool) (d x : X) (xs : List X) (b : Bool) → p x ≡ b → (b || list_any p xs) ≡ true → (list_any p xs ≡ true → Found p d xs) → Found p d (x ∷ xs)
found_head p d x xs true here any rest = record { index = 0; inside = omega arith; passes = here }
found_head p d x xs false here any rest = let w = rest any in record { index = suc w.index; inside = (let h = w.inside in omega (arith, h)); passes = w.passes }

pub any-found : {X : Type 0} (p : X → Bool) (d : X) (xs : List X) → list_any p xs ≡ true → Found p d xs
any-found p d [] any = let h : false ≡ true = any in absurd cc
any-found p d (x ∷ xs) any = found_head p d x xs (p x) refl any (any-found p d xs)

pub or-left : (a b : Bool) → a ≡ true → (a || b) ≡ true
or-left true b is = refl
or-left false b is = let h : false ≡ true = is in absurd cc

pub or-right : (a b : Bool) → b ≡ true → (a || b) ≡ true
or-right true b is = refl
or-right false b is = is

-- ---- counts of two tests, of which the first implies the second

weight-le : (a b : Bool) → (a ≡ true → b ≡ true) → cond a 1 0 ≤ cond b 1 0
weight-le false b sub = omega arith
weight-le true true sub = omega arith
weight-le true false sub = let h : false ≡ true = sub refl in absurd cc

weight-back : (a b : Bool) → cond b 1 0 ≤ cond a 1 0 → b ≡ true → a ≡ true
weight-back true b le is = refl
weight-back false false le is = is
weight-back false true le is = absurd (omega (arith, le))

module _ (p q : ℕ → Bool) (sub : (x : ℕ) → p x ≡ true → q x ≡ true) where
  pub count-le : (xs : List ℕ) → count_by p xs ≤ count_by q xs
  count-le [] = omega arith
  count-le (x ∷ xs) =
      let a = sum_by-cons (λ y. cond (p y) 1 0) x xs in
      let b = sum_by-cons (λ y. cond (q y) 1 0) x xs in
      let here = weight-le (p x) (q x) (sub x) in
      let rest = count-le xs in
      omega (arith, a, b, here, rest)

  -- where they are counted alike, the second implies the first
  pub count-back : (xs : List ℕ) → count_by q xs ≤ count_by p xs → (i : ℕ) → i < length xs → q (get_or xs i 0) ≡ true → p (get_or xs i 0) ≡ true
  count-back [] le i inside is = absurd (omega (arith, inside))
  count-back (x ∷ xs) le zero inside is =
      let a = sum_by-cons (λ y. cond (p y) 1 0) x xs in
      let b = sum_by-cons (λ y. cond (q y) 1 0) x xs in
      let rest = count-le xs in
      weight-back (p x) (q x) (omega (arith, a, b, le, rest)) is
  count-back (x ∷ xs) le (suc i) inside is =
      let a = sum_by-cons (λ y. cond (p y) 1 0) x xs in
      let b = sum_by-cons (λ y. cond (q y) 1 0) x xs in
      let here = weight-le (p x) (q x) (sub x) in
      count-back xs (omega (arith, a, b, le, here)) i (omega (arith, inside)) is

-- ---- places and ranges

-- one more on both sides
pub step-lt : (n m : ℕ) → nat_lt (1 + n) (suc m) ≡ nat_lt n m
step-lt n m = ⊎_elim
    (λ (is : nat_lt n m ≡ true). let less = ltb-true n m is in lt-ltb (1 + n) (suc m) (omega (arith, less)) ∙ sym is)
    (λ (is : nat_lt n m ≡ false). let over = ltb-false n m is in le-ltb (1 + n) (suc m) (omega (arith, over)) ∙ sym is)
    (cases_Bool (nat_lt n m))

pub inside-is : {X : Type 0} (p : X → Bool) (xs : List X) → nat_lt (position_or_len p xs) (length xs) ≡ list_any p xs
inside-is p [] = refl
inside-is p (x ∷ xs) = by_test (p x) (inside-is p xs)
  where
    by_test : (b : Bool) → nat_lt (position_or_len p xs) (length xs) ≡ list_any p xs → nat_lt (cond (not b) (1 + position_or_len p xs) 0) (suc (length xs)) ≡ (b || list_any p xs)
    by_test true more = lt-ltb 0 (suc (length xs)) (omega arith)
    by_test false more = step-lt (position_or_len p xs) (length xs) ∙ more

pub first-inside : {X : Type 0} (p : X → Bool) (xs : List X) → list_any p xs ≡ true → position_or_len p xs < length xs
first-inside p [] any = let e : false ≡ true = any in absurd cc
first-inside p (x ∷ xs) any = by_test (p x) any (first-inside p xs)
  where
    by_test : (b : Bool) → (b || list_any p xs) ≡ true → (list_any p xs ≡ true → position_or_len p xs < length xs) → cond (not b) (1 + position_or_len p xs) 0 < length (x ∷ xs)
    by_test true found later = omega arith
    by_test false found later = let less = later found in omega (arith, less)

pub range-push : (a n : ℕ) → range_with_len a (suc n) ≡ range_with_len a n ++ (a + n) ∷ []
range-push a zero = let e : a ≡ a + 0 = omega arith in ap (λ (m : ℕ). m ∷ []) e
range-push a (suc n) = let e : a + 1 + n ≡ a + suc n = omega arith in ap (λ (xs : List ℕ). a ∷ xs) (range-push (a + 1) n ∙ ap (λ (m : ℕ). range_with_len (a + 1) n ++ m ∷ []) e)
