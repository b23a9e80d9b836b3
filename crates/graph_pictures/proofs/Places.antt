-- Places of numbers, kept as lists.
use Rattle.std.proofs.Common.{arith, ◌≡◌, ℕ, zero, suc, List, [], ◌∷◌, ◌++◌, ◌==◌, ◌&&◌, if◌then◌else◌, length, nat_lt, refl, set, Vec}
use Rattle.std.proofs.lemmas.Bool.Decides.{nat_tests}
use Rattle.std.proofs.lemmas.Grind.{common_steps}
use Rattle.std.specs.declared.alloc.Global.{Global}
use Rattle.graph_pictures.specs.Groups.{list_at}
use Rattle.graph_pictures.specs.Numbers.{places_of}

-- the places so far, with the next one, and those behind it
pub next_place : (count k x n : ℕ) (xs old new whole : List ℕ) → new ≡ (if (x == n) && nat_lt n count then old ++ k ∷ [] else old) → old ++ places_of count k n (x ∷ xs) ≡ whole → new ++ places_of count (suc k) n xs ≡ whole
next_place count k x n xs old new whole is before = grind (arith, common_steps, nat_tests)

-- a list without places more
pub no_place : (lists : List (Vec ℕ Global)) (v : Vec ℕ Global) → ((n : ℕ) → list_at lists n ≡ []) → v.items ≡ [] → (n : ℕ) → list_at (lists ++ v ∷ []) n ≡ []
no_place [] v none is zero = is
no_place [] v none is (suc n) = refl
no_place (x ∷ xs) v none is zero = none 0
no_place (x ∷ xs) v none is (suc n) = no_place xs v (λ k. none (suc k)) is n

-- another list at a place
pub list_at_set : (lists : List (Vec ℕ Global)) (k : ℕ) (v : Vec ℕ Global) (n : ℕ) → list_at (set lists k v) n ≡ (if (k == n) && nat_lt n (length lists) then v.items else list_at lists n)
list_at_set [] k v n = grind (arith, nat_tests)
list_at_set (x ∷ xs) zero v zero = grind (arith, nat_tests)
list_at_set (x ∷ xs) zero v (suc n) = grind (arith, nat_tests)
list_at_set (x ∷ xs) (suc k) v zero = grind (arith, nat_tests)
list_at_set (x ∷ xs) (suc k) v (suc n) = grind (arith, nat_tests, list_at_set xs k v n)
