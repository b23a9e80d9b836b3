-- Numbers as they are counted in 32 bits.
use Rattle.std.specs.Prelude.{ℕ, min}

-- the number itself, or the greatest one of 32 bits where it is greater
abbrev pub counted : ℕ → ℕ
counted n = min n 4294967295
