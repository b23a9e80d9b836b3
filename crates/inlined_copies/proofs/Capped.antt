-- Sums that stop at a limit.
use Rattle.std.proofs.Common.{◌≡◌, ℕ, ◌+◌, ◌<◌, ◌≤◌, Bool, true, false, min, nat_lt, List, [], ◌∷◌, sum_by, ⊎_elim, refl, sym, ap, ◌∙◌, arith}
use Rattle.std.specs.List.{list_all}
use Rattle.std.proofs.lemmas.Bool.{and_parts, cases_Bool, ltb-true, ltb-false}
use Rattle.std.proofs.lemmas.List.Sums.{sum_by-cons}
use native.Mathlib.Nat.{min-eq_left, min-eq_right}

pub min-sum : (a b c : ℕ) → min (min a c + b) c ≡ min (a + b) c
min-sum a b c = ⊎_elim
    (λ (less : nat_lt a c ≡ true).
    let below : a < c = ltb-true a c less in
    ap (λ (x : ℕ). min (x + b) c) (min-eq_left (omega (arith, below))))
    (λ (more : nat_lt a c ≡ false).
    let over : c ≤ a = ltb-false a c more in
    let one : c ≤ c + b = omega arith in
    let two : c ≤ a + b = omega (arith, over) in
    ap (λ (x : ℕ). min (x + b) c) (min-eq_right over) ∙ min-eq_right one ∙ sym (min-eq_right two))
    (cases_Bool (nat_lt a c))

-- what is summed is alike, where these hold
pub sums-capped : (p : ℕ → Bool) (f h : ℕ → ℕ) (limit : ℕ) → ((x : ℕ) → p x ≡ true → f x ≡ min (h x) limit) → (xs : List ℕ) → list_all p xs ≡ true → (a : ℕ) → min (a + sum_by f xs) limit ≡ min (a + sum_by h xs) limit
sums-capped p f h limit is [] all a = refl
sums-capped p f h limit is (x ∷ xs) all a =
    let both = and_parts (p x) (list_all p xs) all in
    let front : a + sum_by f (x ∷ xs) ≡ (a + f x) + sum_by f xs = (let e = sum_by-cons f x xs in omega (arith, e)) in
    let turn : (a + f x) + sum_by h xs ≡ f x + (a + sum_by h xs) = omega arith in
    let back : h x + (a + sum_by h xs) ≡ a + sum_by h (x ∷ xs) = (let e = sum_by-cons h x xs in omega (arith, e)) in
    ap (λ (n : ℕ). min n limit) front
    ∙ sums-capped p f h limit is xs both.1 (a + f x)
    ∙ ap (λ (n : ℕ). min n limit) turn
    ∙ ap (λ (n : ℕ). min (n + (a + sum_by h xs)) limit) (is x both.0)
    ∙ min-sum (h x) (a + sum_by h xs) limit
    ∙ ap (λ (n : ℕ). min n limit) back

each : (xs : List ℕ) → list_all (λ x. true) xs ≡ true
each [] = refl
each (x ∷ xs) = each xs

pub sum-capped : (f h : ℕ → ℕ) (limit : ℕ) → ((x : ℕ) → f x ≡ min (h x) limit) → (xs : List ℕ) (a : ℕ) → min (a + sum_by f xs) limit ≡ min (a + sum_by h xs) limit
sum-capped f h limit is xs a = sums-capped (λ x. true) f h limit (λ x any. is x) xs (each xs) a
