-- Sums over the places of a list, and over two lists.
use Rattle.std.proofs.Common.{◌≡◌, ℕ, zero, suc, ◌+◌, ◌*◌, ◌≤◌, Bool, cond, subst, sym, List, [], ◌∷◌, length, map, Some, refl, arith}
use Rattle.std.specs.Prelude.{sum_by, flat_map, filter, slice_get}
use Rattle.std.specs.List.{range_with_len}
use Rattle.std.proofs.lemmas.List.Sums.{sum_by-cons, sum_by-append, sum_by-le-sum_by, length-filter}

pub sum_by-flat_map : {X A : Type 0} (t : A → ℕ) (f : X → List A) (xs : List X) → sum_by t (flat_map f xs) ≡ sum_by (λ x. sum_by t (f x)) xs
sum_by-flat_map t f [] = refl
sum_by-flat_map t f (x ∷ xs) = omega (arith, sum_by-flat_map t f xs, sum_by-append t (f x) (flat_map f xs), sum_by-cons (λ x. sum_by t (f x)) x xs)

pub sum_by-map : {X A : Type 0} (t : A → ℕ) (f : X → A) (xs : List X) → sum_by t (map f xs) ≡ sum_by (λ x. t (f x)) xs
sum_by-map t f [] = refl
sum_by-map t f (x ∷ xs) = omega (arith, sum_by-map t f xs, sum_by-cons t (f x) (map f xs), sum_by-cons (λ x. t (f x)) x xs)

pub sum_by-two : {X : Type 0} (f g : X → ℕ) (xs : List X) → sum_by (λ x. f x + g x) xs ≡ sum_by f xs + sum_by g xs
sum_by-two f g [] = refl
sum_by-two f g (x ∷ xs) = omega (arith, sum_by-two f g xs, sum_by-cons (λ x. f x + g x) x xs, sum_by-cons f x xs, sum_by-cons g x xs)

pub sum_by-constant : {X : Type 0} (n : ℕ) (f : X → ℕ) (xs : List X) → sum_by (λ x. n + f x) xs ≡ n * length xs + sum_by f xs
sum_by-constant n f [] = omega arith
sum_by-constant n f (x ∷ xs) =
    let product : n * suc (length xs) ≡ n + n * length xs = omega arith in
    omega (arith, sum_by-constant n f xs, sum_by-cons (λ x. n + f x) x xs, sum_by-cons f x xs, product)

-- what each place has is at most what its item has
pub sum_by-places : {X : Type 0} (F : ℕ → ℕ) (g : X → ℕ) (xs : List X) → ((k : ℕ) (x : X) → slice_get xs k ≡ Some x → F k ≤ g x) → sum_by F (range_with_len 0 (length xs)) ≤ sum_by g xs
sum_by-places {X = X} F g xs each = from xs 0 (λ k n x is at. let same : n ≡ k = omega (arith, is) in subst (λ (m : ℕ). F m ≤ g x) (sym same) (each k x at))
  where
    from : (ys : List X) (a : ℕ) → ((k n : ℕ) (x : X) → n ≡ a + k → slice_get ys k ≡ Some x → F n ≤ g x) → sum_by F (range_with_len a (length ys)) ≤ sum_by g ys
    from [] a each = omega arith
    from (x ∷ ys) a each = omega (arith, sum_by-cons F a (range_with_len (a + 1) (length ys)), sum_by-cons g x ys, each zero a x (omega arith) refl, from ys (a + 1) (λ k n y at is. each (suc k) n y (omega arith) is))

abbrev pub one_if : Bool → ℕ
one_if b = cond b 1 0

-- how many a filter keeps
pub length-kept : {X : Type 0} (p : X → Bool) (xs : List X) → length (filter p xs) ≡ sum_by (λ x. one_if (p x)) xs
length-kept p xs = length-filter p xs

pub sum_by-nothing : {X : Type 0} (xs : List X) → sum_by (λ x. 0) xs ≡ 0
sum_by-nothing [] = refl
sum_by-nothing (x ∷ xs) = sum_by-nothing xs

-- where each item of the second list is counted at most once, all are counted at most as often as there are such items
pub sum_by-once : {X Y : Type 0} (f : X → Y → ℕ) (xs : List X) (ys : List Y) → ((y : Y) (k : ℕ) → slice_get ys k ≡ Some y → sum_by (λ x. f x y) xs ≤ 1) → sum_by (λ x. sum_by (f x) ys) xs ≤ length ys
sum_by-once f xs [] once = let is = sum_by-nothing xs in omega (arith, is)
sum_by-once f xs (y ∷ ys) once =
    let apart = sum_by-le-sum_by (λ x. sum_by (f x) (y ∷ ys)) (λ x. f x y + sum_by (f x) ys) xs (λ x. let here = sum_by-cons (f x) y ys in omega (arith, here)) in
    let both = sum_by-two (λ x. f x y) (λ x. sum_by (f x) ys) xs in
    let first = once y zero refl in
    let more = sum_by-once f xs ys (λ z k is. once z (suc k) is) in
    omega (arith, apart, both, first, more)
