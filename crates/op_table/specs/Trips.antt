-- How often the range of a DO is executed.
use Rattle.std.specs.Prelude.{ℕ, ℤ, pos, negsuc, ◌+ℤ◌, ◌-ℤ◌, int_div}

-- a number, or 0 where it is negative
abbrev pub at_least_zero : ℤ → ℕ
at_least_zero (pos n) = n
at_least_zero (negsuc n) = 0

-- (last - first + step) / step, cut towards zero, and no less than 0
abbrev pub trip_count : ℤ → ℤ → ℤ → ℕ
trip_count first last step = at_least_zero (int_div (last -ℤ first +ℤ step) step)
