-- The output of a run that trapped.
use Rattle.std.specs.Prelude.{◌≡◌, ◌<◌, ◌^◌, ◌==◌, ℕ, List, [], ◌∷◌, ◌++◌, if◌then◌else◌, codes}
use Rattle.std.specs.Fmt.{decimal}
use Rattle.source_maps.specs.declared.output.ToldTrap.{ToldTrap}

-- how the line of a trap is told at the end of an output
abbrev pub line_words : (line : ℕ) → List ℕ
line_words line = codes " LINE " ++ decimal line ++ codes "\n"

-- an output ends with the line of a trap
abbrev pub EndsInTrap : (text : List ℕ) → ToldTrap → Type 0
EndsInTrap text trap = text ≡ trap.front.now ++ line_words trap.line

-- it ends with that of none, of 32 bits
abbrev pub EndsInNoTrap : (text : List ℕ) → Type 0
EndsInNoTrap text = (front : List ℕ) (line : ℕ) → line < 2 ^ 32 → text ≡ front ++ line_words line → ⊥

-- what stands after the last blank of a text, or another text where it has none
abbrev pub after_blank : (otherwise text : List ℕ) → List ℕ
after_blank otherwise [] = otherwise
after_blank otherwise (c ∷ rest) = after_blank (if c == 32 then rest else otherwise) rest
