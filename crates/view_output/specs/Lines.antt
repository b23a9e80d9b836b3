-- Lines of a text.
use Rattle.std.specs.Prelude.{ℕ, zero, suc, ◌==◌, Bool, not, List, [], drop}
use Rattle.std.specs.List.{prefix_len, take_while}

abbrev pub is_inside : (c : ℕ) → Bool
is_inside c = not (c == 10)

-- the first line of a text after so many others, without its end
abbrev pub line_after : (skipped : ℕ) → List ℕ → List ℕ
line_after zero text = take_while is_inside text
line_after (suc k) text = line_after k (drop (suc (prefix_len is_inside text)) text)
