-- What holds of each item of a list, or of some.
use Rattle.std.proofs.Common.{◌≡◌, ℕ, zero, suc, ◌<◌, List, [], ◌∷◌, ◌++◌, length, Some, refl, subst, arith}
use Rattle.std.specs.Prelude.{All, Any, slice_get}

module _ {X : Type 0} (P : X → Type 0) where
  pub All-nil : All P []
  All-nil k d lt = absurd (omega (arith, lt))

  pub All-cons : (x : X) (xs : List X) → P x → All P xs → All P (x ∷ xs)
  All-cons x xs holds all zero d lt = holds
  All-cons x xs holds all (suc k) d lt = all k d (omega (arith, lt))

  pub All-first : (x : X) (xs : List X) → All P (x ∷ xs) → P x
  All-first x xs all = all zero x (omega arith)

  pub All-rest : (x : X) (xs : List X) → All P (x ∷ xs) → All P xs
  All-rest x xs all k d lt = all (suc k) d (omega (arith, lt))

  -- it holds of the item at an index
  pub All-get : (xs : List X) (k : ℕ) (x : X) → All P xs → slice_get xs k ≡ Some x → P x
  All-get [] k x all is = absurd cc
  All-get (y ∷ ys) zero x all is =
      let same : y ≡ x = cc in
      subst (λ z. P z) same (All-first y ys all)
  All-get (y ∷ ys) (suc k) x all is = All-get ys k x (All-rest y ys all) is

  pub Any-first : (x : X) (xs : List X) → P x → Any P (x ∷ xs)
  Any-first x xs holds = (zero, x, omega arith, refl, holds)

  pub Any-rest : (x : X) (xs : List X) → Any P xs → Any P (x ∷ xs)
  Any-rest x xs some = (suc some.0, some.1, let lt = some.2 in omega (arith, lt), some.3, some.4)

-- items after those of a list leave them
pub get-longer : {X : Type 0} (xs ys : List X) (k : ℕ) → k < length xs → slice_get (xs ++ ys) k ≡ slice_get xs k
get-longer [] ys k lt = absurd (omega (arith, lt))
get-longer (x ∷ xs) ys zero lt = refl
get-longer (x ∷ xs) ys (suc k) lt = get-longer xs ys k (omega (arith, lt))
