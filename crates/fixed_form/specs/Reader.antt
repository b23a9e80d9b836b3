-- What the reader has read, and what its answer will be.
use Rattle.std.specs.Prelude.{◌≡◌, ◌≢◌, ◌+◌, ◌*◌, ◌≤◌, true, false, List, [], ◌∷◌, ◌++◌, length, Option, Some, None, Result, Ok, Err}
use Rattle.std.specs.List.{All, list_all, filter, fold}
use Rattle.fixed_form.specs.declared.form_end.FormEnd.{FormEnd}
use Rattle.fixed_form.specs.declared.form_end.FormEnd.TheVariants.{NoMemory}
use Rattle.fixed_form.specs.declared.raw_stmt.RawStmt.{RawStmt}
use Rattle.fixed_form.specs.declared.open_stmt.OpenStmt.{OpenStmt}
use Rattle.fixed_form.specs.declared.reader.Reader.{Reader}
use Rattle.fixed_form.specs.SourceLine.{SourceLine, is_statement_line}
use Rattle.fixed_form.specs.Columns.{is_character}
use Rattle.fixed_form.specs.Statement.{text_from, inside_after, continuations, joined, statements_of}
use Rattle.fixed_form.specs.Limits.{IsWithinForm}
use Rattle.fixed_form.specs.Fault.{initial_count, continuation_count, fault}
use Rattle.fixed_form.specs.OpenStmt.{with_characters}

-- the statement, if no line of it is still to come
abbrev pub closed : OpenStmt → RawStmt
closed stmt = record { label = stmt.label; line = stmt.line; text = stmt.text }

abbrev pub closed_last : Option OpenStmt → List RawStmt
closed_last None = []
closed_last (Some stmt) = closed stmt ∷ []

-- the statement begun last and those after it, where lines without comments follow
abbrev pub statements_from : Option OpenStmt → List SourceLine → List RawStmt
statements_from None lines = statements_of lines
statements_from (Some stmt) lines = closed (with_characters stmt (joined (continuations lines))) ∷ statements_of lines

-- all statements, where these lines follow
abbrev pub statements_after : Reader → List SourceLine → List RawStmt
statements_after reader lines = reader.done ++ statements_from reader.last (filter is_statement_line lines)

-- the counts of the lines above, listed from the last one up
abbrev pub CountsLast : Option OpenStmt → List RawStmt → List SourceLine → Type 0
CountsLast None done above = initial_count above ≡ 0
CountsLast (Some stmt) done above = (initial_count above ≡ length done + 1) × (stmt.continuations ≡ continuation_count above)

abbrev pub HasRead : Reader → List SourceLine → Type 0
HasRead reader above = CountsLast reader.last reader.done above

-- within the limits of a statement
pub record IsOpenWithinForm (stmt : OpenStmt) : Type 0 where
  pub label : stmt.label ≤ 99999
  pub continued : stmt.continuations ≤ 19
  pub short : length stmt.text ≤ 66 * (stmt.continuations + 1)
  pub characters : list_all is_character stmt.text ≡ true
  pub folded : text_from false stmt.text ≡ stmt.text
  pub inside : fold inside_after false stmt.text ≡ stmt.is_inside

abbrev pub IsLast : Option OpenStmt → List RawStmt → Type 0
IsLast None done = done ≡ []
IsLast (Some stmt) done = IsOpenWithinForm stmt

-- within the limits of a text
pub record IsBounded (reader : Reader) : Type 0 where
  pub done : length reader.done ≤ 4000
  pub few : length (reader.done ++ closed_last reader.last) ≤ 4000
  pub each : All IsWithinForm reader.done
  pub last : IsLast reader.last reader.done

-- a line was read below these, or refused
abbrev pub Reads : List SourceLine → Reader → Reader → SourceLine → {A : Type 0} → Result A FormEnd → Type 0
Reads above old new line (Ok value) = (fault above line ≡ None) × HasRead new (line ∷ above) × ((rest : List SourceLine) → statements_after old (line ∷ rest) ≡ statements_after new rest)
Reads above old new line (Err end) = end ≢ NoMemory → fault above line ≡ Some end
