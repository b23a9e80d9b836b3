-- The statements of a text, and what a printed program has of them.
use Rattle.std.specs.Prelude.{◌≡◌, ℕ, Bool, List, None, Ok}
use Rattle.f77_tree.specs.declared.programs.Program.{Program}
use Rattle.f77_tree.specs.declared.statements.Labelled.{Labelled}
use Rattle.fixed_form.specs.declared.raw_stmt.RawStmt.{RawStmt}
use Rattle.fixed_form.specs.Reading as lines
use Rattle.layout_rules.specs.Faults.{first_line}
use Rattle.f77_source.specs.Reading.{statements_of}
use Rattle.flat_programs.specs.declared.statements.FlatLine.{FlatLine}
use Rattle.read_back.specs.PrintedArrays.{HasNoPrintedArrays}
use Rattle.read_back.specs.PrintedStatements.{CanBeText, written_statements, labelled_from}

-- what the statements of a printed program are read as
abbrev pub statements_read : Program → List FlatLine → List Labelled
statements_read q flat = labelled_from 1 (written_statements q flat)

-- none of these statements has the fault, which is judged over all of them and over those above
abbrev pub NoneHas : (fault : (whole above : List Labelled) → Labelled → Bool) → Program → List FlatLine → Type 0
NoneHas fault q flat = first_line (fault (statements_read q flat)) (statements_read q flat) ≡ None

-- a program that can have a text, and in which no array bears a name with which an intrinsic function is printed
pub record CanBeRead (q : Program) (flat : List FlatLine) : Type 0 where
  pub text : CanBeText q flat
  pub arrays : HasNoPrintedArrays q.names

-- the text has these statements: no line and no statement of it is refused
pub record HasStatements (bytes : List ℕ) (stmts : List Labelled) : Type 0 where
  pub raws : List RawStmt
  pub lines : lines.reading bytes ≡ Ok raws
  pub statements : statements_of raws ≡ Ok stmts
