-- Why a line is refused.
use Rattle.std.specs.Prelude.{ℕ, not, ◌==◌, nat_le, if◌then◌else◌, List, [], ◌∷◌, length, Option, Some, None}
use Rattle.std.specs.List.{filter}
use Rattle.std.specs.Option.{option_or}
use Rattle.fixed_form.specs.declared.form_end.FormEnd.{FormEnd}
use Rattle.fixed_form.specs.declared.form_end.FormEnd.TheVariants.{BadByte, BadLabelField, StrayContinuation, TooManyContinuations, TooManyStatements}
use Rattle.fixed_form.specs.declared.line.LineKind.{LineKind}
use Rattle.fixed_form.specs.declared.line.LineKind.TheVariants.{Comment, Initial, Continuation}
use Rattle.fixed_form.specs.Columns.{kind, is_blank, label_field, has_bad_label, has_bad_byte}
use Rattle.fixed_form.specs.SourceLine.{SourceLine, is_initial_line, is_statement_line}
use Rattle.fixed_form.specs.Statement.{continuations}

-- how many of the lines begin a statement
abbrev pub initial_count : List SourceLine → ℕ
initial_count lines = length (filter is_initial_line lines)

-- how many continuation lines the last statement has, in lines listed from the last one up
abbrev pub continuation_count : List SourceLine → ℕ
continuation_count above = length (continuations (filter is_statement_line above))

-- the fault of a line of this kind, below lines that are listed from the nearest one up
abbrev pub fault_of_kind : LineKind → List SourceLine → SourceLine → Option FormEnd
fault_of_kind Comment above line = None
fault_of_kind Initial above line =
    if has_bad_byte line.card then Some (BadByte line.number)
    else (if has_bad_label line.card then Some (BadLabelField line.number)
    else (if nat_le 4000 (initial_count above) then Some (TooManyStatements line.number)
    else None))
fault_of_kind Continuation above line =
    if has_bad_byte line.card then Some (BadByte line.number)
    else (if not (is_blank (label_field line.card)) then Some (BadLabelField line.number)
    else (if initial_count above == 0 then Some (StrayContinuation line.number)
    else (if nat_le 19 (continuation_count above) then Some (TooManyContinuations line.number)
    else None)))

abbrev pub fault : List SourceLine → SourceLine → Option FormEnd
fault above line = fault_of_kind (kind line.card) above line

-- the first fault in lines, below other lines
abbrev pub first_fault : List SourceLine → List SourceLine → Option FormEnd
first_fault above [] = None
first_fault above (line ∷ more) = option_or (fault above line) (first_fault (line ∷ above) more)
