-- Columns at fault, counted from 1.
use Rattle.std.specs.Prelude.{ℕ, ◌+◌, ◌==◌, nat_lt, not, ◌&&◌, ◌||◌, List, take, Option, option_map}
use Rattle.std.specs.Char.{is_ascii_digit}
use Rattle.std.specs.List.{position}

-- the first of columns 1 to 72 with a byte that isn't from 32 to 126
abbrev pub column_of_byte : (line : List ℕ) → Option ℕ
column_of_byte line = option_map (λ k. k + 1) (position (λ c. nat_lt c 32 || nat_lt 126 c) (take 72 line))

-- the first of columns 1 to 5 with another character than a digit or a blank
abbrev pub column_of_label : (line : List ℕ) → Option ℕ
column_of_label line = option_map (λ k. k + 1) (position (λ c. not (c == 32) && not (is_ascii_digit c)) (take 5 line))
