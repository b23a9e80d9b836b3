-- The lines of a text, as they are shown.
use Rattle.std.specs.Prelude.{ℕ, zero, suc, ◌-◌, ◌==◌, nat_le, nat_lt, ◌&&◌, if◌then◌else◌, List, [], ◌++◌, codes, length, map, take, Option, Some, None}
use Rattle.std.specs.List.{after_first, before_first, position_or_len}
use Rattle.std.specs.Str.Lines.{strip_carriage_return}

-- the line that a text begins with: it ends before an LF, or before a CR and LF, or with the text
abbrev pub first_line : (text : List ℕ) → List ℕ
first_line text = if nat_lt (position_or_len (λ c. c == 10) text) (length text) then strip_carriage_return (before_first (λ c. c == 10) text) else text

-- the text after its first line
abbrev pub after_line : (text : List ℕ) → List ℕ
after_line text = after_first (λ c. c == 10) text

-- the text after some lines
abbrev pub after_lines : ℕ → (text : List ℕ) → List ℕ
after_lines zero text = text
after_lines (suc n) text = after_line (after_lines n text)

-- a line without its end, counted from 1; none past the last
abbrev pub line_of : (text : List ℕ) → (number : ℕ) → List ℕ
line_of text number = if number == 0 then [] else first_line (after_lines (number - 1) text)

-- a blank for a tab, and ? for another byte that isn't from 32 to 126
abbrev pub shown_character : ℕ → ℕ
shown_character c = if c == 9 then 32 else (if nat_le 32 c && nat_le c 126 then c else 63)

abbrev pub shown : (line : List ℕ) → List ℕ
shown line = map shown_character line

-- a blank for each byte
abbrev pub blanks : List ℕ → List ℕ
blanks columns = map (λ _. 32) columns

-- a caret below a column of a line, behind a bar, if there is one
abbrev pub caret : (line : List ℕ) → (column : Option ℕ) → List ℕ
caret line None = []
caret line (Some column) = codes "  |" ++ blanks (take (column - 1) line) ++ codes "^\n"
