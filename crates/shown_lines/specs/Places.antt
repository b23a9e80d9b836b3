-- Places of a file, and what is shown there.
use Rattle.std.specs.Prelude.{ℕ, List, [], ◌++◌, codes, Option, Some, None}
use Rattle.std.specs.Fmt.{decimal}
use Rattle.shown_lines.specs.declared.places.Place.{Place}
use Rattle.shown_lines.specs.declared.places.Shown.{Shown}

abbrev pub column_text : Option ℕ → List ℕ
column_text None = []
column_text (Some column) = codes ":" ++ decimal column

-- FILE:LINE or FILE:LINE:COLUMN
abbrev pub place_text : Place → List ℕ
place_text place = place.file.now ++ codes ":" ++ decimal place.line ++ column_text place.column

-- a line behind a bar, and what stands below it
abbrev pub lines_text : (line caret : List ℕ) → List ℕ
lines_text line caret = codes "  |" ++ line ++ codes "\n" ++ caret

abbrev pub shown_text : Shown → List ℕ
shown_text shown = lines_text shown.line.now shown.caret.now
