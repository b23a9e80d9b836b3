-- Sums of functions over the numbers below one.
use Rattle.std.proofs.Common.{◌≡◌, ◌≢◌, ℕ, zero, suc, ◌+◌, ◌<◌, ◌≤◌, ◌==◌, if◌then◌else◌, List, [], ◌∷◌, length, get_or, sum, refl, ap, ⊎_elim, arith}
use Rattle.std.proofs.lemmas.Bool.{cases_eq, eq-eqb, ne_eqb}
use Rattle.std.proofs.lemmas.List.Sums.{sum_by-cons}
use Rattle.cycle_equiv.specs.WalkSteps.{sum_to}

-- one at a number, and none elsewhere
abbrev pub at_one : ℕ → ℕ → ℕ
at_one a x = if x == a then 1 else 0

pub at_here : (a x : ℕ) → x ≡ a → at_one a x ≡ 1
at_here a x same = rw (eq-eqb x a same) refl

pub at_other : (a x : ℕ) → x ≢ a → at_one a x ≡ 0
at_other a x apart = rw (ne_eqb x a apart) refl

pub sum_least : (f h : ℕ → ℕ) (n : ℕ) → ((x : ℕ) → x < n → f x ≤ h x) → sum_to f n ≤ sum_to h n
sum_least f h zero each = omega arith
sum_least f h (suc n) each = grind (arith, sum_least f h n)

pub sum_same : (f h : ℕ → ℕ) (n : ℕ) → ((x : ℕ) → x < n → f x ≡ h x) → sum_to f n ≡ sum_to h n
sum_same f h zero each = refl
sum_same f h (suc n) each = grind (arith, sum_same f h n)

pub sum_plus : (f h : ℕ → ℕ) (n : ℕ) → sum_to (λ x. f x + h x) n ≡ sum_to f n + sum_to h n
sum_plus f h zero = refl
sum_plus f h (suc n) = let rest = sum_plus f h n in omega (arith, rest)

pub sum_ones : (n : ℕ) → sum_to (λ x. 1) n ≡ n
sum_ones zero = refl
sum_ones (suc n) = let rest = sum_ones n in omega (arith, rest)

pub sum_none : (n : ℕ) → sum_to (λ x. 0) n ≡ 0
sum_none zero = refl
sum_none (suc n) = let rest = sum_none n in omega (arith, rest)

sum_past : (a n : ℕ) → n ≤ a → sum_to (at_one a) n ≡ 0
sum_past a zero past = refl
sum_past a (suc n) past = grind (arith, sum_past a n, at_other a n)

pub sum_one : (a n : ℕ) → a < n → sum_to (at_one a) n ≡ 1
sum_one a zero less = absurd (omega (arith, less))
sum_one a (suc n) less = ⊎_elim
    (λ (same : n ≡ a). let rest = sum_past a n (omega (arith, same)) in let here = at_here a n same in omega (arith, rest, here))
    (λ (apart : n ≢ a).
    let rest = sum_one a n (omega (arith, less, apart)) in
    let here = at_other a n apart in
    omega (arith, rest, here))
    (cases_eq n a)

-- where one value is greater by k, the sum is
pub sum_more : (f h : ℕ → ℕ) (a k n : ℕ) → a < n → h a ≡ f a + k → ((x : ℕ) → x < n → x ≢ a → h x ≡ f x) → sum_to h n ≡ sum_to f n + k
sum_more f h a k zero less here there = absurd (omega (arith, less))
sum_more f h a k (suc n) less here there = ⊎_elim
    (λ (same : n ≡ a).
    let rest = sum_same h f n (λ x x_less. there x (omega (arith, x_less)) (λ e. omega (arith, e, same, x_less))) in
    let hn = ap h same in
    let fn = ap f same in
    omega (arith, rest, here, hn, fn))
    (λ (apart : n ≢ a).
    let rest = sum_more f h a k n (omega (arith, less, apart)) here (λ x x_less. there x (omega (arith, x_less))) in
    let same = there n (omega arith) apart in
    omega (arith, rest, same))
    (cases_eq n a)

sum_shift : (f : ℕ → ℕ) (n : ℕ) → sum_to f (suc n) ≡ f 0 + sum_to (λ x. f (suc x)) n
sum_shift f zero = omega arith
sum_shift f (suc n) = let rest = sum_shift f n in omega (arith, rest)

-- the sum of a list
pub sum_list : (xs : List ℕ) → sum xs ≡ sum_to (λ k. get_or xs k 0) (length xs)
sum_list [] = refl
sum_list (x ∷ xs) =
    let rest = sum_list xs in
    let first = sum_shift (λ k. get_or (x ∷ xs) k 0) (length xs) in
    let total = sum_by-cons (λ (n : ℕ). n) x xs in
    let long : length (x ∷ xs) ≡ suc (length xs) = refl in
    omega (arith, rest, first, total)
