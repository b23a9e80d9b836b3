-- A row of the table of rounds.
use Rattle.std.specs.Prelude.{◌≡◌, ℕ, List, [], Option, Some, None}
use Rattle.trace_profiles.specs.Profiles.{line_text, row_text}
use Rattle.trace_profiles.specs.declared.bars.Row.{Row}

abbrev pub written_row : Option Row → List ℕ
written_row None = []
written_row (Some r) = line_text r.first r.last r.all r.bar

abbrev pub TellsRow : (widths : List ℕ) → (number : ℕ) → Option Row → Type 0
TellsRow widths number row = written_row row ≡ row_text widths number
