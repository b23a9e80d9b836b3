-- How long a sequence can be whose brackets stand once.
use Rattle.std.proofs.Common.{◌≡◌, ◌||◌, ◌⊎◌, inl, inr, ℕ, ◌<◌, ◌≤◌, Bool, true, false, eqb, List, [], ◌∷◌, length, refl, sym, ⊎_elim}
use Rattle.std.proofs.lemmas.Bool.{cases_Bool, eqb-true}
use Rattle.std.proofs.lemmas.Map.Steps.{length-le_from_distinct_below}
use Rattle.std.specs.List.{AllByRecursion, IsDistinct, list_any}
use Rattle.brackets.specs.Brackets.{IsOnce, Stands}

differ : (x : ℕ) (ys : List ℕ) → (Stands ys x → ⊥) → AllByRecursion (λ y. eqb x y ≡ false) ys
differ x [] none = tt
differ x (y ∷ ys) none = (
  ⊎_elim (λ (is : eqb x y ≡ true). absurd (none (inl (sym (eqb-true x y is))))) (λ not. not) (cases_Bool (eqb x y)),
  differ x ys (λ later. none (inr later)),
)

distinct : (xs : List ℕ) → IsOnce xs → IsDistinct eqb xs
unfolding IsDistinct
distinct [] once = tt
distinct (x ∷ xs) (not, once) = (differ x xs not, distinct xs once)

or_true : (a b : Bool) → (a || b) ≡ true → (a ≡ true) ⊎ (b ≡ true)
or_true true b is = inl refl
or_true false b is = inr is

any_stands : (q : ℕ) (xs : List ℕ) → list_any (eqb q) xs ≡ true → Stands xs q
any_stands q [] is = let e : false ≡ true = is in absurd cc
any_stands q (x ∷ xs) is = ⊎_elim (λ here. inl (sym (eqb-true q x here))) (λ later. inr (any_stands q xs later)) (or_true (eqb q x) (list_any (eqb q) xs) is)

pub length_most : (xs : List ℕ) (n : ℕ) → IsOnce xs → ((x : ℕ) → Stands xs x → x < n) → length xs ≤ n
length_most xs n once below = length-le_from_distinct_below xs n (distinct xs once) (λ q any. below q (any_stands q xs any))
