-- Words of a list, as indexing reads them.
use Rattle.std.proofs.Common.{◌≡◌, ℕ, zero, suc, ◌<◌, ℤ, List, [], ◌∷◌, length, slice_index_or, sym, arith}
use Rattle.f77_tree.specs.Value.{word_at}

pub word_at_is : (xs : List ℤ) (k : ℕ) (z : ℤ) → k < length xs → z ≡ slice_index_or xs k z → word_at xs k ≡ z
word_at_is [] k z lt is = absurd (omega (arith, lt))
word_at_is (x ∷ xs) zero z lt is = sym is
word_at_is (x ∷ xs) (suc k) z lt is = word_at_is xs k z (omega (arith, lt)) is
