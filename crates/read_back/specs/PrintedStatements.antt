-- The statements of a printed program: as they are written, and what they are read as.
use Rattle.std.specs.Prelude.{◌≡◌, ◌≤◌, ℕ, ◌+◌, false, List, [], ◌∷◌, ◌++◌, length, map, flat_map, Option, Some, None, Ok, slice_get}
use Rattle.std.specs.List.{range_with_len}
use Rattle.f77_tree.specs.declared.programs.NameInfo.{NameInfo}
use Rattle.f77_tree.specs.declared.programs.Program.{Program}
use Rattle.f77_tree.specs.declared.statements.Labelled.{Labelled}
use Rattle.f77_tree.specs.StatementGrammar.{WrittenStatement, statement_of}
use Rattle.f77_tree.specs.WellFormed.{AreDeclarations}
use Rattle.fixed_form.specs.declared.raw_stmt.RawStmt.{RawStmt}
use Rattle.fixed_form.specs.Reading as lines
use Rattle.f77_parse.specs.Parsing.{reading_of}
use Rattle.flat_programs.specs.declared.statements.FlatLine.{FlatLine}
use Rattle.flat_programs.specs.Declarations.{declared}
use Rattle.flat_programs.specs.FlatForm.{IsFlat, AreProper}
use Rattle.flat_programs.specs.Lines.{Typeset, line_count}
use Rattle.flat_programs.specs.Shown.{shown}
use Rattle.flat_programs.specs.Text.{has_long_text, label_at}
use Rattle.flat_programs.specs.Typeset.{typeset}

-- ---- as they are written

-- a statement as it is written, and its label, which is 0 where it has none
pub record LabelledStatement : Type 0 where
  pub label : ℕ
  pub written : WrittenStatement

-- as it is printed
abbrev pub printed : LabelledStatement → Typeset
printed s = record { label = s.label; text = typeset s.written }

abbrev pub declaration : WrittenStatement → LabelledStatement
declaration w = record { label = 0; written = w }

abbrev pub written_in : List NameInfo → List FlatLine → (place : ℕ) → Option FlatLine → List LabelledStatement
written_in names flat place None = []
written_in names flat place (Some l) = record { label = label_at flat place l; written = shown names l.stmt } ∷ []

abbrev pub written_at : List NameInfo → List FlatLine → (place : ℕ) → List LabelledStatement
written_at names flat place = written_in names flat place (slice_get flat place)

-- all statements of a program, in order: its declarations, and then the flat statements
abbrev pub written_statements : Program → List FlatLine → List LabelledStatement
written_statements q flat = map declaration (declared q) ++ flat_map (written_at q.names flat) (range_with_len 0 (length flat))

-- ---- as they are read

-- what these statements are read as, of which the first begins on this line
abbrev pub labelled_from : (line : ℕ) → List LabelledStatement → List Labelled
labelled_from line [] = []
labelled_from line (s ∷ more) = record { label = s.label; line = line; stmt = statement_of s.written } ∷ labelled_from (line + line_count (typeset s.written)) more

-- the text is read, statement by statement, as these
pub record AreReadAs (bytes : List ℕ) (stmts : List Labelled) : Type 0 where
  pub raws : List RawStmt
  pub lines : lines.reading bytes ≡ Ok raws
  pub statements : map reading_of raws ≡ map Ok stmts

-- the declarations of a program, and flat statements that go with them, few and short enough for a source text
pub record CanBeText (q : Program) (flat : List FlatLine) : Type 0 where
  pub declarations : AreDeclarations q.names q.commons q.groups q.inits
  pub form : IsFlat flat
  pub proper : AreProper q.names flat
  pub few : length (declared q) + length flat ≤ 4000
  pub short : has_long_text q flat ≡ false
