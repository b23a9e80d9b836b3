-- Words, and how whole numbers and truths become words.
use Rattle.std.specs.Prelude.{ℤ, pos, negsuc, Bool, true, false, not, ◌&&◌, int_le, FitsSigned}
use Rattle.std.specs.Int.{w32, int_wrap}
use Rattle.std.specs.Ordering.{int_eq}

-- a number from -2147483648 to 2147483647
abbrev pub IsWord : ℤ → Type 0
IsWord z = FitsSigned w32 z

-- the same, as a test
abbrev pub is_word : ℤ → Bool
is_word z = int_le (negsuc 2147483647) z && int_le z (pos 2147483647)

-- the word that differs from z by a multiple of 2 ^ 32
abbrev pub wrapped : ℤ → ℤ
wrapped z = int_wrap w32 z

-- a word as a truth: true where it isn't 0
abbrev pub is_true : ℤ → Bool
is_true z = not (int_eq z (pos 0))

-- a truth as a word
abbrev pub truth : Bool → ℤ
truth true = pos 1
truth false = pos 0
