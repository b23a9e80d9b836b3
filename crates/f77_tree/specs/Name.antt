-- Symbolic names.
use Rattle.std.specs.Prelude.{ℕ, Bool, ◌&&◌, ◌||◌, nat_lt, nat_le, List, length, slice_index}
use Rattle.std.specs.List.{list_all}

-- a letter from A to Z
abbrev pub is_capital : ℕ → Bool
is_capital b = nat_le 65 b && nat_le b 90

-- a digit from 0 to 9
abbrev pub is_figure : ℕ → Bool
is_figure b = nat_le 48 b && nat_le b 57

-- one to six capital letters or digits, the first of them a letter
abbrev pub is_name : List ℕ → Bool
is_name bytes = nat_lt 0 (length bytes) && nat_le (length bytes) 6 && is_capital (slice_index bytes 0) && list_all (λ b. is_capital b || is_figure b) bytes
