-- The words of a name, as a list and as a range of numbers, are the same.
use Rattle.std.proofs.Common.{◌≡◌, ℕ, zero, suc, ◌+◌, ◌-◌, ◌*◌, ◌<◌, ◌≤◌, pos, ◌*ℤ◌, Bool, true, inl, inr, List, [], ◌∷◌, length, get_or, nat_abs, ap, refl, ◌∙◌, arith}
use Rattle.std.specs.Prelude.{All, ◌≤ℤ◌}
use Rattle.std.specs.List.{list_any}
use Rattle.std.proofs.lemmas.Bool.{or_cases}
use Rattle.std.proofs.lemmas.List.Folds.{list_any_at}
use Rattle.std.proofs.Math.Nat.{one-le-mul}
use Rattle.std.proofs.lemmas.Int.{ints}
use Rattle.f77_tree.specs.declared.declarations.Dim.{Dim}
use Rattle.f77_tree.specs.Value.{extent, size_of}
use Rattle.f77_tree.specs.InitialWords.{words_from}

abbrev InOrder : Dim → Type 0
InOrder dim = dim.lo ≤ℤ dim.hi

-- a size as a natural number
abbrev count_of : List Dim → ℕ
count_of [] = 1
count_of (dim ∷ dims) = nat_abs (extent dim) * count_of dims

extent_is : (dim : Dim) → InOrder dim → pos (nat_abs (extent dim)) ≡ extent dim
extent_is dim order = omega (arith, ints, order)

extent_some : (dim : Dim) → InOrder dim → 1 ≤ nat_abs (extent dim)
extent_some dim order = omega (arith, ints, order)

count_is : (dims : List Dim) → ((k : ℕ) (d : Dim) → k < length dims → InOrder (get_or dims k d)) → (pos (count_of dims) ≡ size_of dims) × (1 ≤ count_of dims)
count_is [] all = (refl, omega arith)
count_is (dim ∷ dims) all =
    let here : InOrder dim = all 0 dim (omega arith) in
    let rest = count_is dims (λ k d lt. all (suc k) d (omega (arith, lt))) in
    (ap (λ z. pos (nat_abs (extent dim)) *ℤ z) rest.0 ∙ ap (λ z. z *ℤ size_of dims) (extent_is dim here), one-le-mul (extent_some dim here) rest.1)

-- a name has at least one word
pub size_some : (dims : List Dim) → All InOrder dims → size_of dims ≡ pos (nat_abs (size_of dims))
size_some dims all = let is = (count_is dims all).0 in omega (arith, ints, is)

length_from : (first count : ℕ) → length (words_from first count) ≡ count
length_from first zero = refl
length_from first (suc count) = ap suc (length_from (suc first) count)

from_at : (first count k : ℕ) → k < count → get_or (words_from first count) k 0 ≡ first + k
from_at first zero k below = absurd (omega (arith, below))
from_at first (suc count) zero below = omega arith
from_at first (suc count) (suc k) below = let rest = from_at (suc first) count k (omega (arith, below)) in omega (arith, rest)

-- a test that a number of a range passes is passed by a word of the list
pub range_any : (p : ℕ → Bool) (first count word : ℕ) → first ≤ word → word < first + count → p word ≡ true → list_any p (words_from first count) ≡ true
range_any p first count word from below passes =
    let whole = length_from first count in
    let at : get_or (words_from first count) (word - first) 0 ≡ word = from_at first count (word - first) (omega (arith, from, below)) ∙ omega (arith, from) in
    list_any_at p (words_from first count) (word - first) 0 (omega (arith, from, below, whole)) (ap p at ∙ passes)

-- and the other way around
pub any_range : (p : ℕ → Bool) (first count : ℕ) → list_any p (words_from first count) ≡ true → (word : ℕ) × (first ≤ word) × (word < first + count) × (p word ≡ true)
any_range p first zero any = cc
any_range p first (suc count) any = elim (or_cases (p first) (list_any p (words_from (suc first) count)) any) [
  | inl is ↦ (first, omega arith, omega arith, is)
  | inr more ↦ let found = any_range p (suc first) count more in let from = found.1 in let below = found.2 in (found.0, omega (arith, from), omega (arith, below), found.3)
]
