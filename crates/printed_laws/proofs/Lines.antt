-- Lines of values, each with its number.
use Rattle.std.proofs.Common.{◌≡◌, ℕ, zero, suc, ◌+◌, ◌*◌, ◌<◌, ◌≤◌, Bool, true, false, cond, List, [], ◌∷◌, ◌++◌, length, map, filter, flat_map, All, refl, ap, sym, ◌∙◌, append_assoc, arith}
use Rattle.std.specs.List.{list_all, range_with_len}
use Rattle.std.proofs.lemmas.Bool.{and_parts}
use Rattle.std.proofs.lemmas.List.Elements.{All-nil, All-cons, All-append, All-head, All-map, All-tail}
use Rattle.std.proofs.lemmas.List.{length-append}
use Rattle.std.proofs.lemmas.Grind.{flat_map-append}
use Rattle.std.proofs.Math.Nat.{suc-mul}
use Rattle.printed_graphs.specs.Words.{lines_from}

-- a blank by itself
pub apart : (xs ys : List ℕ) → xs ++ 32 ∷ ys ≡ xs ++ 32 ∷ [] ++ ys
apart xs ys = sym (append_assoc xs (32 ∷ []) ys)

-- lines of two lists, one after the other
pub lines_appended : {A : Type 0} (line : ℕ → A → List ℕ) (n : ℕ) (xs ys : List A) → lines_from line n (xs ++ ys) ≡ lines_from line n xs ++ lines_from line (n + length xs) ys
lines_appended line n [] ys = ap (λ m. lines_from line m ys) (omega arith)
lines_appended line n (x ∷ xs) ys =
    ap (λ r. line n x ++ r) (lines_appended line (n + 1) xs ys ∙ ap (λ m. lines_from line (n + 1) xs ++ lines_from line m ys) (omega arith))
    ∙ sym (append_assoc (line n x) (lines_from line (n + 1) xs) (lines_from line (n + length (x ∷ xs)) ys))

-- lines of values with their places, and lines of numbers that stand so far above the places
pub lines_same : {A : Type 0} (line : ℕ → A → List ℕ) (f : ℕ → A) (g : ℕ → List ℕ) (shift a b n : ℕ) → a + shift ≡ b → ((i k : ℕ) → i + shift ≡ k → b ≤ k → k < b + n → line i (f k) ≡ g k) → lines_from line a (map f (range_with_len b n)) ≡ flat_map g (range_with_len b n)
lines_same line f g shift a b zero at same = refl
lines_same line f g shift a b (suc n) at same =
    ap (λ r. line a (f b) ++ r) (lines_same line f g shift (a + 1) (b + 1) n (omega (arith, at)) (λ i k is low lt. same i k is (omega (arith, low)) (omega (arith, lt))))
    ∙ ap (λ l. l ++ flat_map g (range_with_len (b + 1) n)) (same a b at (omega arith) (omega arith))

-- what holds of each number of a range
pub each_in_range : (P : ℕ → Type 0) (a n : ℕ) → ((k : ℕ) → a ≤ k → k < a + n → P k) → All P (range_with_len a n)
each_in_range P a zero each = All-nil P
each_in_range P a (suc n) each = All-cons P a (range_with_len (a + 1) n) (each a (omega arith) (omega arith)) (each_in_range P (a + 1) n (λ k low lt. each k (omega (arith, low)) (omega (arith, lt))))

from_zero : (n k : ℕ) → k < 0 + n → k < n
from_zero n k lt = omega (arith, lt)

pub each_below : (n : ℕ) → All (λ k. k < n) (range_with_len 0 n)
each_below n = each_in_range (λ k. k < n) 0 n (λ k low lt. from_zero n k lt)

-- what holds of each value that is made of a number
pub all_made : {X : Type 0} (P : X → Type 0) (f : ℕ → X) (a n : ℕ) → ((k : ℕ) → a ≤ k → k < a + n → P (f k)) → All P (map f (range_with_len a n))
all_made P f a n each = All-map P f (range_with_len a n) (each_in_range (λ k. P (f k)) a n each)

pub all_made_below : {X : Type 0} (P : X → Type 0) (f : ℕ → X) (n : ℕ) → ((k : ℕ) → k < n → P (f k)) → All P (map f (range_with_len 0 n))
all_made_below P f n each = all_made P f 0 n (λ k low lt. each k (from_zero n k lt))

-- what holds of all parts
pub each_of_parts : {X Y : Type 0} (P : X → Type 0) (Q : Y → Type 0) (f : X → List Y) (xs : List X) → ((x : X) → P x → All Q (f x)) → All P xs → All Q (flat_map f xs)
each_of_parts P Q f [] each all = All-nil Q
each_of_parts P Q f (x ∷ xs) each all = All-append Q (f x) (flat_map f xs) (each x (All-head P x xs all)) (each_of_parts P Q f xs each (All-tail P x xs all))

filtered_by : {X : Type 0} (test : X → Bool) (xs : List X) (x : X) (b : Bool) → length (filter test xs) ≤ length xs → length (cond b (x ∷ filter test xs) (filter test xs)) ≤ suc (length xs)
filtered_by test xs x true most = omega (arith, most)
filtered_by test xs x false most = omega (arith, most)

pub filtered_most : {X : Type 0} (test : X → Bool) (xs : List X) → length (filter test xs) ≤ length xs
filtered_most test [] = omega arith
filtered_most test (x ∷ xs) = filtered_by test xs x (test x) (filtered_most test xs)

-- what a test tells of each
pub each_passes : {X : Type 0} (test : X → Bool) (xs : List X) → list_all test xs ≡ true → All (λ x. test x ≡ true) xs
each_passes test [] is = All-nil (λ x. test x ≡ true)
each_passes test (x ∷ xs) is = let both = and_parts (test x) (list_all test xs) is in All-cons (λ x. test x ≡ true) x xs both.0 (each_passes test xs both.1)

-- parts of parts
pub nested_parts : {X Y : Type 0} (P : X → Type 0) (inner : Y → List ℕ) (f : X → List Y) (g : X → List ℕ) (xs : List X) → ((x : X) → P x → flat_map inner (f x) ≡ g x) → All P xs → flat_map inner (flat_map f xs) ≡ flat_map g xs
nested_parts P inner f g [] each all = refl
nested_parts P inner f g (x ∷ xs) each all =
    flat_map-append inner (f x) (flat_map f xs)
    ∙ ap (λ l. l ++ flat_map inner (flat_map f xs)) (each x (All-head P x xs all))
    ∙ ap (λ r. g x ++ r) (nested_parts P inner f g xs each (All-tail P x xs all))

-- there are no more of them than parts, each with so many at most
pub parts_most : {X Y : Type 0} (f : X → List Y) (xs : List X) (most : ℕ) → ((x : X) → length (f x) ≤ most) → length (flat_map f xs) ≤ length xs * most
parts_most f [] most each = omega arith
parts_most f (x ∷ xs) most each =
    let whole = length-append (f x) (flat_map f xs) in
    let first = each x in
    let others = parts_most f xs most each in
    let product : suc (length xs) * most ≡ length xs * most + most = suc-mul (length xs) most in
    omega (arith, whole, first, others, product)
