-- Where the refusal of a text is told.
use Rattle.std.specs.Prelude.{◌≡◌, ℕ, ◌+◌, ◌≤◌, List, length}
use Rattle.fixed_form.specs.SourceLine.{source_lines}
use Rattle.f77_source.specs.declared.source_end.Code.{Code}
use Rattle.f77_source.specs.declared.source_end.Code.TheVariants.{NoEnd}
use Rattle.f77_source.specs.declared.source_end.Refusal.{Refusal}

-- the number of one of so many lines
abbrev pub IsLineOf : (count line : ℕ) → Type 0
IsLineOf count line = (1 ≤ line) × (line ≤ count)

-- that END is missing is told at the line after the last, and all else at one of the lines
abbrev pub IsLineFor : Code → (count line : ℕ) → Type 0
IsLineFor NoEnd count line = line ≡ count + 1
IsLineFor _ count line = IsLineOf count line

-- the line of a refusal, where the text has so many
abbrev pub IsToldIn : (count : ℕ) → Refusal → Type 0
IsToldIn count refusal = IsLineFor refusal.code count refusal.line

abbrev pub LiesIn : List ℕ → Refusal → Type 0
LiesIn bytes refusal = IsToldIn (length (source_lines bytes)) refusal
