-- The statements that printed ones are read as, by the lines on which they stand.
use Rattle.std.specs.Prelude.{◌≡◌, ℕ, ◌+◌, ◌≤◌, ◌==◌, Bool, true, false, not, List, [], ◌∷◌, length}
use Rattle.std.specs.List.{list_all, fold}
use Rattle.fixed_form.specs.declared.raw_stmt.RawStmt.{RawStmt}
use Rattle.fixed_form.specs.Columns.{is_character}
use Rattle.fixed_form.specs.Statement.{inside_after, text}
use Rattle.flat_programs.specs.Lines.{Typeset, line_count}

-- whether another character than a blank comes first
abbrev pub begins_visibly : List ℕ → Bool
begins_visibly [] = false
begins_visibly (c ∷ characters) = not (c == 32)

-- a statement that lines can have: its label has five digits at most; its text has at most 1,320 characters, of which the first is no
-- blank, and closes each character constant
pub record CanStand (t : Typeset) : Type 0 where
  pub label : t.label ≤ 99999
  pub begins : begins_visibly t.text ≡ true
  pub short : length t.text ≤ 1320
  pub characters : list_all is_character t.text ≡ true
  pub closed : fold inside_after false t.text ≡ false

-- what these statements are read as, of which the first begins on this line: each with its label, the number of its first line, and
-- its text without blanks outside of character constants
abbrev pub read_from : (line : ℕ) → List Typeset → List RawStmt
read_from line [] = []
read_from line (t ∷ ts) = record { label = t.label; line = line; text = text t.text } ∷ read_from (line + line_count t.text) ts
