-- The flat statements that executables come from. The GO TO of a logical IF stands right after its test; any other executable that does
-- nothing is a mark where it goes on to the executable after it, and else a GO TO.
use Rattle.std.specs.Prelude.{ℕ, zero, suc, ◌+◌, ◌-◌, Bool, true, false, not, ◌&&◌, ◌==◌, if◌then◌else◌, List, [], length, map, flat_map, count_by, Option, Some, None, option_to_list, slice_get, slice_index}
use Rattle.std.specs.List.{range_with_len}
use Rattle.f77_tree.specs.declared.programs.Exec.{Exec}
use Rattle.f77_tree.specs.declared.programs.ExecKind.{ExecKind}
use Rattle.f77_tree.specs.declared.programs.ExecKind.TheVariants.{Assign, Print, Pass, Test, Sign, Pick, DoStart, End}
use Rattle.flat_programs.specs.declared.statements.Flat.{Flat}
use Rattle.flat_programs.specs.declared.statements.Flat.TheVariants.{Mark, Assignment, Output, LogicalIf, ArithmeticIf, ComputedGoTo, DoLoop, Jump, Finish}
use Rattle.flat_programs.specs.declared.statements.FlatLine.{FlatLine}

-- ---- marks among executables

abbrev pub is_test : ExecKind → Bool
is_test (Test cond if_true if_false) = true
is_test _ = false

abbrev pub is_test_in : Option Exec → Bool
is_test_in None = false
is_test_in (Some exec) = is_test exec.kind

-- whether the executable before this one is a test
abbrev pub follows_test : List Exec → (k : ℕ) → Bool
follows_test execs zero = false
follows_test execs (suc k) = is_test_in (slice_get execs k)

-- where an executable that does nothing goes on, and 0 for every other one
abbrev pub goes_on : ExecKind → ℕ
goes_on (Pass next) = next
goes_on _ = 0

abbrev pub goes_on_in : Option Exec → ℕ
goes_on_in None = 0
goes_on_in (Some exec) = goes_on exec.kind

abbrev pub is_mark_at : List Exec → (k : ℕ) → Bool
is_mark_at execs k = not (follows_test execs k) && (goes_on_in (slice_get execs k) == k + 1)

-- for each executable, how many marks there are up to it and with it
abbrev pub mark_counts : List Exec → List ℕ
mark_counts execs = map (λ k. count_by (is_mark_at execs) (range_with_len 0 (k + 1))) (range_with_len 0 (length execs))

-- the number of the mark whose executable this is
abbrev pub number_at : List Exec → (k : ℕ) → ℕ
number_at execs k = slice_index (mark_counts execs) k

-- ---- statements

-- the statement that an executable is that does nothing
abbrev pub idle_statement : List Exec → (k next : ℕ) → Option Flat
idle_statement execs k next = if follows_test execs k then None else (if next == k + 1 then Some Mark else Some (Jump (number_at execs next)))

-- the statement without a jump whose executable this is, where it is told which numbers marks have; a DO ends at the mark whose
-- increment stands before its exit
abbrev pub straight_statement : (number : ℕ → ℕ) → ExecKind → Option Flat
straight_statement number (Assign target value next) = Some (Assignment target value)
straight_statement number (Print items next) = Some (Output items)
straight_statement number (DoStart loop_no var first last step body exit) = Some (DoLoop (number (exit - 2)) var first last step)
straight_statement number End = Some Finish
straight_statement number _ = None

-- the statement whose first executable this is; the GO TO of a logical IF and the increment of a DO aren't the first one of any
abbrev pub statement_of : List Exec → (k : ℕ) → ExecKind → Option Flat
statement_of execs k (Pass next) = idle_statement execs k next
statement_of execs k (Test cond if_true if_false) = Some (LogicalIf cond (number_at execs (goes_on_in (slice_get execs (k + 1)))))
statement_of execs k (Sign value below at above) = Some (ArithmeticIf value (number_at execs below) (number_at execs at) (number_at execs above))
statement_of execs k (Pick value targets other) = Some (ComputedGoTo value (map (number_at execs) targets))
statement_of execs k kind = straight_statement (number_at execs) kind

abbrev pub lines_in : List Exec → (k : ℕ) → Option Exec → List FlatLine
lines_in execs k None = []
lines_in execs k (Some exec) = map (λ stmt. record { line = exec.line; stmt = stmt }) (option_to_list (statement_of execs k exec.kind))

abbrev pub lines_at : List Exec → (k : ℕ) → List FlatLine
lines_at execs k = lines_in execs k (slice_get execs k)

-- all statements, in the order of the text; each has the line of its first executable
abbrev pub recovered : List Exec → List FlatLine
recovered execs = flat_map (lines_at execs) (range_with_len 0 (length execs))
