-- What a source text is: a program, or its first refusal. Allocation failure has no place in it.
use Rattle.std.specs.Prelude.{◌≡◌, ℕ, ◌*◌, ◌-◌, Bool, nat_lt, if◌then◌else◌, List, [], ◌∷◌, Result, Ok, Err}
use Rattle.fixed_form.specs.declared.raw_stmt.RawStmt.{RawStmt}
use Rattle.fixed_form.specs.declared.form_end.FormEnd.{FormEnd}
use Rattle.fixed_form.specs.declared.form_end.FormEnd.TheVariants as form
use Rattle.fixed_form.specs.Reading as lines
use Rattle.f77_tree.specs.declared.programs.Program.{Program}
use Rattle.f77_tree.specs.declared.statements.Labelled.{Labelled}
use Rattle.f77_parse.specs.declared.stmt_end.StmtEnd.{StmtEnd}
use Rattle.f77_parse.specs.declared.stmt_end.StmtEnd.TheVariants as stmt
use Rattle.f77_parse.specs.Parsing.{reading_of}
use Rattle.layout_rules.specs.declared.layout_end.LayoutEnd.{LayoutEnd}
use Rattle.layout_rules.specs.declared.layout_end.LayoutEnd.TheVariants as layout
use Rattle.layout_rules.specs.Layout as laid
use Rattle.alias_classes.specs.Number.{number_of_classes}
use Rattle.alias_classes.specs.declared.TheConstants.{CLASS_WORDS}
use Rattle.program_units.specs.declared.sub_end.SubEnd.{SubEnd}
use Rattle.program_units.specs.declared.sub_end.SubEnd.TheVariants as sub
use Rattle.program_units.specs.Texts.{IsText}
use Rattle.f77_source.specs.Listed.{listed}
use Rattle.f77_source.specs.declared.source_end.Code.{Code}
use Rattle.f77_source.specs.declared.source_end.Code.TheVariants as code
use Rattle.f77_source.specs.declared.source_end.Refusal.{Refusal}

abbrev pub told : Code → ℕ → Refusal
told code line = record { line = line; code = code }

-- ---- lines and statements

-- the refusal of a line; the last row is never met (`readings_never_lack_memory` of refusal_laws)
abbrev pub form_refusal : FormEnd → Refusal
form_refusal (form.BadByte line) = told code.BadByte line
form_refusal (form.BadLabelField line) = told code.BadLabelField line
form_refusal (form.StrayContinuation line) = told code.StrayContinuation line
form_refusal (form.TooManyContinuations line) = told code.TooManyContinuations line
form_refusal (form.NoEnd line) = told code.NoEnd line
form_refusal (form.TooManyStatements line) = told code.TooManyStatements line
form_refusal form.NoMemory = told code.NoEnd 0

-- the refusal of a statement's text; the last row is never met (`readings_never_lack_memory`)
abbrev pub stmt_refusal : StmtEnd → Refusal
stmt_refusal (stmt.NoForm line) = told code.NoForm line
stmt_refusal (stmt.BadConstant line) = told code.BadConstant line
stmt_refusal (stmt.TooDeep line) = told code.TooDeep line
stmt_refusal stmt.NoMemory = told code.NoForm 0

abbrev pub statement_before : Result Labelled StmtEnd → Result (List Labelled) Refusal → Result (List Labelled) Refusal
statement_before (Err end) more = Err (stmt_refusal end)
statement_before (Ok s) (Err refusal) = Err refusal
statement_before (Ok s) (Ok more) = Ok (s ∷ more)

-- the statements, or the refusal of the first text that is none; `reading_of` is what the grammar says of a text, and nothing else is
-- (`one_answer` and `one_statement` of f77_parse)
abbrev pub statements_of : List RawStmt → Result (List Labelled) Refusal
statements_of [] = Ok []
statements_of (raw ∷ more) = statement_before (reading_of raw) (statements_of more)

abbrev pub statements_in : Result (List RawStmt) FormEnd → Result (List Labelled) Refusal
statements_in (Ok raws) = statements_of raws
statements_in (Err end) = Err (form_refusal end)

-- the statements of the text
abbrev pub statements_read : (bytes : List ℕ) → Result (List Labelled) Refusal
statements_read bytes = statements_in (lines.reading bytes)

-- ---- programs

-- the refusal of statements; the last row is never met (`readings_never_lack_memory`)
abbrev pub layout_refusal : LayoutEnd → Refusal
layout_refusal (layout.OutOfOrder line) = told code.OutOfOrder line
layout_refusal (layout.RealName line) = told code.RealName line
layout_refusal (layout.TypeWrong line) = told code.TypeWrong line
layout_refusal (layout.LayoutWrong line) = told code.LayoutWrong line
layout_refusal (layout.LabelTwice line) = told code.LabelTwice line
layout_refusal (layout.LabelMissing line) = told code.LabelMissing line
layout_refusal (layout.BadNesting line) = told code.BadNesting line
layout_refusal (layout.JumpInto line) = told code.JumpInto line
layout_refusal (layout.TooManyWords line) = told code.TooManyWords line
layout_refusal (layout.TooManyOps line) = told code.TooManyOps line
layout_refusal layout.NoMemory = told code.OutOfOrder 0

-- the refusal of units; the last row is never met (`readings_never_lack_memory`)
abbrev pub sub_refusal : SubEnd → Refusal
sub_refusal (sub.UnitOrder line) = told code.OutOfOrder line
sub_refusal (sub.Layout end) = layout_refusal end
sub_refusal (sub.SubTwice line) = told code.SubTwice line
sub_refusal (sub.NoSub line) = told code.NoSub line
sub_refusal (sub.BadCall line) = told code.BadCall line
sub_refusal (sub.BadBlock line) = told code.BadBlock line
sub_refusal (sub.Recursion line) = told code.Recursion line
sub_refusal (sub.TooManyStatements line) = told code.TooManyStatements line
sub_refusal (sub.TooManyNames line) = told code.TooManyNames line
sub_refusal sub.NoMemory = told code.NoEnd 0

-- a program may have so many alias classes
abbrev pub most_classes : ℕ
most_classes = 64 * CLASS_WORDS - 1

-- a program with more is refused, at the line of END
abbrev pub unless_many_classes : (end_line : ℕ) → Program → Result Program Refusal
unless_many_classes end_line p = if nat_lt most_classes (number_of_classes p) then Err (told code.TooManyClasses end_line) else Ok p

abbrev pub program_laid : (end_line : ℕ) → Result Program LayoutEnd → Result Program Refusal
program_laid end_line (Ok p) = unless_many_classes end_line p
program_laid end_line (Err end) = Err (layout_refusal end)

-- the program that listed statements make, or the refusal of units
abbrev pub program_from : (checked : Bool) → Result (List Labelled) SubEnd → Result Program Refusal
program_from checked (Ok list) = program_laid (laid.last_line list) (laid.layout list checked)
program_from checked (Err end) = Err (sub_refusal end)

abbrev pub program_of : (checked : Bool) → Result (List Labelled) Refusal → Result Program Refusal
program_of checked (Ok stmts) = program_from checked (listed stmts checked)
program_of checked (Err refusal) = Err refusal

abbrev pub program_in : (checked : Bool) → Result (List RawStmt) FormEnd → Result Program Refusal
program_in checked (Ok raws) = program_of checked (statements_of raws)
program_in checked (Err end) = Err (form_refusal end)

-- what the text is, in the plain dialect or the checked one
abbrev pub reading : (bytes : List ℕ) → (checked : Bool) → Result Program Refusal
reading bytes checked = program_in checked (lines.reading bytes)

-- The text is read as this program, whatever each statement that is laid out asks, and however many classes the program has.
pub record Reads (bytes : List ℕ) (checked : Bool) (p : Program) : Type 0 where
  pub raws : List RawStmt
  pub stmts : List Labelled
  pub lines : lines.reading bytes ≡ Ok raws
  pub statements : statements_of raws ≡ Ok stmts
  pub list : List Labelled
  pub units : listed stmts checked ≡ Ok list
  pub form : laid.HasForm list
  pub is : laid.program list checked ≡ p

-- ---- texts that are programs

-- these are the statements of the text
pub record HasStatements (bytes : List ℕ) (stmts : List Labelled) : Type 0 where
  pub raws : List RawStmt
  pub lines : lines.reading bytes ≡ Ok raws
  pub statements : statements_of raws ≡ Ok stmts

-- The statements were read from a text, and what they come to is laid out as this program.
pub record AreStatementsOf (stmts : List Labelled) (checked : Bool) (p : Program) : Type 0 where
  pub text : IsText stmts
  pub list : List Labelled
  pub units : listed stmts checked ≡ Ok list
  pub laid : laid.layout list checked ≡ Ok p

-- the text is this program, by its statements
pub record IsProgramOf (bytes : List ℕ) (checked : Bool) (p : Program) : Type 0 where
  pub stmts : List Labelled
  pub has : HasStatements bytes stmts
  pub are : AreStatementsOf stmts checked p

-- so are texts that were cut into statements
pub record IsProgramFrom (raws : List RawStmt) (checked : Bool) (p : Program) : Type 0 where
  pub stmts : List Labelled
  pub statements : statements_of raws ≡ Ok stmts
  pub are : AreStatementsOf stmts checked p
