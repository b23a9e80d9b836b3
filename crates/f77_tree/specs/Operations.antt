-- How many operations an expression or an executable takes: the measure of how much one statement may ask.
use Rattle.std.specs.Prelude.{ℕ, ◌+◌, ◌*◌, ◌≤◌, max, Bool, true, false, not, ◌==◌, if◌then◌else◌, List, [], ◌∷◌, ◌++◌, map, fold, filter, sum_by, All}
use Rattle.f77_tree.specs.declared.expressions.Access.{Access}
use Rattle.f77_tree.specs.declared.expressions.Expr.{Expr, Row_of-Expr, end_of-Expr, more_of-Expr}
use Rattle.f77_tree.specs.declared.expressions.Expr.TheVariants.{Const, Truth, Input, Read', Apply'}
use Rattle.f77_tree.specs.declared.programs.Exec.{Exec}
use Rattle.f77_tree.specs.declared.programs.ExecKind.{ExecKind}
use Rattle.f77_tree.specs.declared.programs.ExecKind.TheVariants.{Assign, Print, Pass, Test, Sign, Pick, DoStart, DoNext, End}
use Rattle.f77_tree.specs.declared.programs.Item.{Item}
use Rattle.f77_tree.specs.declared.programs.Item.TheVariants.{Value, Chars}
use Rattle.f77_tree.specs.declared.programs.Program.{Program}
use Rattle.f77_tree.specs.Value.{row_length}

abbrev mutual
  -- a constant takes none, Input takes one, a read takes one and for each subscript two more than the subscript takes,
  -- and an operator one more than its operands take
  pub operations : Expr → ℕ
  operations (Const z) = 0
  operations (Truth b) = 0
  operations Input = 1
  operations (Read' name shape subs) = 1 + 2 * row_length subs + row_operations subs
  operations (Apply' op shape args) = 1 + row_operations args

  pub row_operations : {m : _} → Row_of-Expr m → ℕ
  row_operations end_of-Expr = 0
  row_operations (more_of-Expr e rest) = operations e + row_operations rest

-- an access takes two operations for each subscript besides those that it takes, and one to read or to store
abbrev pub access_operations : Access → ℕ
access_operations access = 1 + sum_by (λ e. 2 + operations e) access.subs

abbrev pub item_operations : Item → ℕ
item_operations (Value e) = 1 + operations e
item_operations (Chars text) = 1

-- an assignment has its target's and its value's, a PRINT one for each item besides the item's own, a branch one besides
-- its selector's, the start of a DO four besides those of its three expressions, and the increment of a DO three
abbrev pub exec_operations : ExecKind → ℕ
exec_operations (Assign target e next) = access_operations target + operations e
exec_operations (Print items next) = sum_by item_operations items
exec_operations (Pass next) = 0
exec_operations (Test cond on_true on_false) = 1 + operations cond
exec_operations (Sign e neg zero pos) = 1 + operations e
exec_operations (Pick e targets other) = 1 + operations e
exec_operations (DoStart loop_no var first last step body exit) = 4 + operations first + operations last + operations step
exec_operations (DoNext loop_no var body exit) = 3
exec_operations End = 0

-- ---- statements: neighbouring executables of one line are of one statement, which may stand in the program more than
-- once

abbrev pub joined : Exec → List (List Exec) → List (List Exec)
joined exec ((next ∷ rest) ∷ statements) = if exec.line == next.line then (exec ∷ next ∷ rest) ∷ statements else (exec ∷ []) ∷ (next ∷ rest) ∷ statements
joined exec statements = (exec ∷ []) ∷ statements

-- the executables, statement by statement
abbrev pub statements_of : List Exec → List (List Exec)
statements_of [] = []
statements_of (exec ∷ execs) = joined exec (statements_of execs)

abbrev pub is_increment : ExecKind → Bool
is_increment (DoNext loop_no var body exit) = true
is_increment _ = false

-- the increments of the DOs that end at a statement are apart from it
abbrev pub increments : List Exec → List Exec
increments execs = filter (λ exec. is_increment exec.kind) execs

abbrev pub others : List Exec → List Exec
others execs = filter (λ exec. not (is_increment exec.kind)) execs

-- the operations of a statement
abbrev pub statement_operations : List Exec → ℕ
statement_operations statement = sum_by (λ exec. exec_operations exec.kind) (others statement)

-- the greatest number of operations of a statement or an increment, and at least 1
abbrev pub most_operations : Program → ℕ
most_operations p = fold max 1 (map statement_operations (statements_of p.execs) ++ map (λ exec. exec_operations exec.kind) (increments p.execs))

-- no executable takes more operations than a statement may ask
abbrev pub HasFewOperations : Program → Type 0
HasFewOperations p = All (λ exec. exec_operations exec.kind ≤ 500) p.execs
