-- The report of a refusal.
use Rattle.std.specs.Prelude.{◌≡◌, ◌⊎◌, ◌++◌, ℕ, List, Option, None, codes}
use Rattle.declared_names.specs.Described.{described}
use Rattle.fixed_form.specs.Reading.{reading}
use Rattle.f77_source.specs.declared.source_end.Code.{Code}
use Rattle.f77_source.specs.declared.source_end.Code.TheVariants.{BadByte, BadLabelField, NoForm, BadCall, BadBlock, RealName, TypeWrong, SubTwice, NoSub, Recursion, LabelTwice, LabelMissing}
use Rattle.f77_tree.specs.declared.statements.Labelled.{Labelled}
use Rattle.f77_source.specs.declared.source_end.Refusal.{Refusal}
use Rattle.kind_causes.specs.Declarations.{IsDeclared}
use Rattle.refusal_causes.specs.Declarations.{IsOfBlock, IsOfCall, IsOfName}
use Rattle.refusal_causes.specs.Labels.{IsOfLabels}
use Rattle.unit_statements.specs.Units.{unit_with}
use Rattle.refusal_causes.specs.declared.cause.Cause.{Cause}
use Rattle.refusal_causes.specs.declared.cause.Cause.TheVariants as causes
use Rattle.refusal_reports.specs.Advices.{advice_by_code}
use Rattle.refusal_reports.specs.Statements.{parsed, raws_of}
use Rattle.refusal_reports.specs.Columns.{column_of_byte, column_of_label}
use Rattle.refusal_reports.specs.Report.{told_text}
use Rattle.shown_lines.specs.Lines.{caret, line_of, shown}
use Rattle.shown_lines.specs.Places.{lines_text, place_text}
use Rattle.shown_lines.specs.declared.places.Place.{Place}

-- the column that a refusal of a line is for
abbrev pub column_at : Code → (line : List ℕ) → Option ℕ
column_at BadByte line = column_of_byte line
column_at BadLabelField line = column_of_label line
column_at _ line = None

-- a place, what is wrong there, the line with its caret, and what to write instead
abbrev pub written : Place → (line : List ℕ) → Cause → (code_name : List ℕ) → List ℕ
written place line cause code_name = told_text (place_text place) cause code_name (lines_text (shown line) (caret line place.column))

-- what is told of a refusal by its code; where the statement has no form, by tables of statements and signs
abbrev pub IsByCode : (line : List ℕ) → List Labelled → (number : ℕ) → (wrong : List ℕ) → Code → Type 0
IsByCode line stmts number wrong NoForm = Unit {0}
IsByCode line stmts number wrong code = wrong ≡ advice_by_code line stmts number code

abbrev pub IsOfCode : (line : List ℕ) → List Labelled → Refusal → Cause → Type 0
IsOfCode line stmts refusal (causes.Rule advice) = IsByCode line stmts refusal.line advice.wrong.now refusal.code
IsOfCode line stmts refusal _ = ⊥

abbrev pub IsName : List Labelled → (number : ℕ) → Cause → Type 0
IsName stmts number (causes.Name c) = IsOfName stmts number c
IsName stmts number _ = ⊥

abbrev pub IsCall : Cause → Type 0
IsCall (causes.Call c) = IsOfCall c
IsCall _ = ⊥

abbrev pub IsBlock : Cause → Type 0
IsBlock (causes.Block c) = IsOfBlock c
IsBlock _ = ⊥

abbrev pub IsKind : List Labelled → (number : ℕ) → Cause → Type 0
IsKind stmts number (causes.Kind c) = IsDeclared (described (unit_with number stmts)) c
IsKind stmts number _ = ⊥

abbrev pub IsLabel : List Labelled → (number : ℕ) → Cause → Type 0
IsLabel stmts number (causes.Label c) = IsOfLabels (unit_with number stmts) number c
IsLabel stmts number _ = ⊥

-- what is told with the names of the text is so
abbrev pub IsFound : List Labelled → (number : ℕ) → Code → Cause → Type 0
IsFound stmts number BadCall cause = IsCall cause
IsFound stmts number BadBlock cause = IsBlock cause
IsFound stmts number RealName cause = IsKind stmts number cause
IsFound stmts number TypeWrong cause = IsKind stmts number cause
IsFound stmts number SubTwice cause = IsName stmts number cause
IsFound stmts number NoSub cause = IsName stmts number cause
IsFound stmts number Recursion cause = IsName stmts number cause
IsFound stmts number LabelTwice cause = IsLabel stmts number cause
IsFound stmts number LabelMissing cause = IsLabel stmts number cause
IsFound stmts number _ cause = ⊥

-- what is told of a refusal: with names that are so, or by the tables
abbrev pub IsCauseOf : (line : List ℕ) → List Labelled → Refusal → Cause → Type 0
IsCauseOf line stmts refusal cause = IsFound stmts refusal.line refusal.code cause ⊎ IsOfCode line stmts refusal cause

-- the report of a refusal: its cause, at the line of the text that it names
pub record IsReportOf (file text : List ℕ) (refusal : Refusal) (code_name report : List ℕ) : Type 0 where
  pub place : Place
  pub cause : Cause
  pub in_file : place.file.now ≡ file
  pub at_line : place.line ≡ refusal.line
  pub at_column : place.column ≡ column_at refusal.code (line_of text refusal.line)
  pub cause_is : IsCauseOf (line_of text refusal.line) (parsed (raws_of (reading text))) refusal cause
  pub report_is : report ≡ written place (line_of text refusal.line) cause code_name

-- the report of a text of more than 4,194,304 bytes
abbrev pub too_long : (file : List ℕ) → List ℕ
too_long file = file ++ codes ": error: the text has more than 4,194,304 bytes [TOOLONG]\n  Make it shorter.\n"
