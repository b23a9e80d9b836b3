-- Parts of printed lines.
use Rattle.std.specs.Prelude.{ℕ, ◌+◌, Bool, true, false, List, [], ◌∷◌, ◌++◌, flat_map}
use Rattle.std.specs.Fmt.{decimal}

-- a number after a blank
abbrev pub field_text : ℕ → List ℕ
field_text n = 32 ∷ decimal n

-- numbers, each after a blank
abbrev pub numbers_text : List ℕ → List ℕ
numbers_text numbers = flat_map field_text numbers

-- the sign of a number
abbrev pub sign_text : (is_negative : Bool) → List ℕ
sign_text true = 45 ∷ []
sign_text false = []

-- the lines of values, each with its number, from this one on
abbrev pub lines_from : {A : Type 0} → (ℕ → A → List ℕ) → (number : ℕ) → List A → List ℕ
lines_from line number [] = []
lines_from line number (x ∷ xs) = line number x ++ lines_from line (number + 1) xs
