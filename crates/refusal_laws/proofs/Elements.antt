-- What holds of each element of a list, and of the first answer of several.
use Rattle.std.proofs.Common.{ℕ, zero, suc, ◌+◌, ◌<◌, Bool, true, false, if◌then◌else◌, List, [], ◌∷◌, ◌++◌, length, map, flat_map, filter, take, drop, slice_get, Option, Some, None, arith}
use Rattle.std.specs.Prelude.{IfSome}
use Rattle.std.specs.List.{AllByRecursion, range_with_len}
use Rattle.layout_rules.specs.Faults.{answer_or, first_answer}

module _ {X : Type 0} (P : X → Type 0) where
  pub each-append : (xs ys : List X) → AllByRecursion P xs → AllByRecursion P ys → AllByRecursion P (xs ++ ys)
  each-append [] ys first second = second
  each-append (x ∷ xs) ys first second = (first.0, each-append xs ys first.1 second)

  pub each-if : (b : Bool) (xs : List X) → AllByRecursion P xs → AllByRecursion P (if b then xs else [])
  each-if true xs all = all
  each-if false xs all = tt

  pub each-filter : (test : X → Bool) (xs : List X) → AllByRecursion P xs → AllByRecursion P (filter test xs)
  each-filter test [] all = tt
  each-filter test (x ∷ xs) all = grind (arith, each-filter test xs, all)

  pub each-take : (n : ℕ) (xs : List X) → AllByRecursion P xs → AllByRecursion P (take n xs)
  each-take zero xs all = tt
  each-take (suc n) [] all = tt
  each-take (suc n) (x ∷ xs) all = (all.0, each-take n xs all.1)

  pub each-drop : (n : ℕ) (xs : List X) → AllByRecursion P xs → AllByRecursion P (drop n xs)
  each-drop zero xs all = all
  each-drop (suc n) [] all = tt
  each-drop (suc n) (x ∷ xs) all = each-drop n xs all.1

  -- what is found at a place
  pub each-found : (R : Option X → Type 0) → ((x : X) → P x → R (Some x)) → (xs : List X) (k : ℕ) → k < length xs → AllByRecursion P xs → R (slice_get xs k)
  each-found R some [] k within all = absurd (omega (arith, within))
  each-found R some (x ∷ xs) zero within all = some x all.0
  each-found R some (x ∷ xs) (suc k) within all = each-found R some xs k (omega (arith, within)) all.1

  pub each-all : ((x : X) → P x) → (xs : List X) → AllByRecursion P xs
  each-all holds [] = tt
  each-all holds (x ∷ xs) = (holds x, each-all holds xs)

module _ {X Y : Type 0} (P : X → Type 0) (Q : Y → Type 0) where
  pub each-map : (f : X → Y) → ((x : X) → P x → Q (f x)) → (xs : List X) → AllByRecursion P xs → AllByRecursion Q (map f xs)
  each-map f holds [] all = tt
  each-map f holds (x ∷ xs) all = (holds x all.0, each-map f holds xs all.1)

  pub each-flat : (f : X → List Y) → ((x : X) → P x → AllByRecursion Q (f x)) → (xs : List X) → AllByRecursion P xs → AllByRecursion Q (flat_map f xs)
  each-flat f holds [] all = tt
  each-flat f holds (x ∷ xs) all = each-append Q (f x) (flat_map f xs) (holds x all.0) (each-flat f holds xs all.1)

pub each-range : (P : ℕ → Type 0) (a n : ℕ) → ((k : ℕ) → k < a + n → P k) → AllByRecursion P (range_with_len a n)
each-range P a zero holds = tt
each-range P a (suc n) holds = (holds a (omega arith), each-range P (a + 1) n (λ k within. holds k (omega (arith, within))))

module _ {B : Type 0} (R : B → Type 0) where
  pub either-answer : (a b : Option B) → IfSome a R → IfSome b R → IfSome (answer_or a b) R
  either-answer None b first second = second
  either-answer (Some x) b first second = first

  pub any-answer : {A : Type 0} (P : A → Type 0) (f : A → Option B) → ((x : A) → P x → IfSome (f x) R) → (xs : List A) → AllByRecursion P xs → IfSome (first_answer f xs) R
  any-answer P f holds [] all = tt
  any-answer P f holds (x ∷ xs) all = either-answer (f x) (first_answer f xs) (holds x all.0) (any-answer P f holds xs all.1)
