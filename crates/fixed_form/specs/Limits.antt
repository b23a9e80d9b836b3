-- The limits of what is read.
use Rattle.std.specs.Prelude.{◌≡◌, ◌≤◌, List, length, IsTrue}
use Rattle.std.specs.List.{All, list_all}
use Rattle.fixed_form.specs.declared.raw_stmt.RawStmt.{RawStmt}
use Rattle.fixed_form.specs.Columns.{is_character}
use Rattle.fixed_form.specs.Statement.{text}

-- a statement of at most 20 lines, whose text has blanks and lower case letters inside character constants alone
pub record IsWithinForm (stmt : RawStmt) : Type 0 where
  pub label : stmt.label ≤ 99999
  pub short : length stmt.text ≤ 1320
  pub characters : IsTrue (list_all is_character stmt.text)
  -- there is nothing more to drop or fold in it
  pub folded : text stmt.text ≡ stmt.text

-- the statements of a text
pub record AreWithinForm (statements : List RawStmt) : Type 0 where
  pub few : length statements ≤ 4000
  pub each : All IsWithinForm statements
