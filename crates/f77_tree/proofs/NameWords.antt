-- The words of a name, as a list and as a range of numbers, are the same.
use Rattle.std.proofs.Common.{◌≡◌, ℕ, zero, suc, ◌+◌, ◌<◌, length, get_or, ap, refl, arith}
use Rattle.f77_tree.specs.InitialWords.{words_from}

pub length-from : (first n : ℕ) → length (words_from first n) ≡ n
length-from first zero = refl
length-from first (suc n) = ap suc (length-from (suc first) n)

pub from-at : (first n k d : ℕ) → k < n → get_or (words_from first n) k d ≡ first + k
from-at first zero k d lt = absurd (omega (arith, lt))
from-at first (suc n) zero d lt = omega arith
from-at first (suc n) (suc k) d lt = let rest = from-at (suc first) n k d (omega (arith, lt)) in omega (arith, rest)
