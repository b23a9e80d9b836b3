-- The words of a text, which stand between its blanks.
use Rattle.std.specs.Prelude.{ℕ, ◌==◌, ◌++◌, if◌then◌else◌, List, [], ◌∷◌}

-- the words of a text, of which the first has begun before it
unfoldable pub words_after : (begun : List ℕ) → (text : List ℕ) → List (List ℕ)
words_after begun [] = begun ∷ []
words_after begun (c ∷ text) = if c == 32 then begun ∷ words_after [] text else words_after (begun ++ c ∷ []) text

-- the words between the blanks of a text; an empty one where two blanks stand together, or none stands
abbrev pub words_in : (text : List ℕ) → List (List ℕ)
words_in text = words_after [] text
