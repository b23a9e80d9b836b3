-- What a task needs has one proof at most, and so has what comes of it.
use Rattle.std.proofs.Common.{◌≡◌, ℕ, List, Result}
use Rattle.std.proofs.Props.{props}
use mathlib.Core.Sum.{⊎_set}
use Rattle.op_table.specs.declared.Trap.{Trap}
use Rattle.f77_tree.specs.declared.expressions.Expr.{Expr, Row_of-Expr, end_of-Expr, more_of-Expr}
use Rattle.f77_tree.specs.declared.expressions.Expr.TheVariants.{Const, Truth, Input, Read', Apply'}
use Rattle.f77_tree.specs.declared.programs.Item.{Item}
use Rattle.f77_tree.specs.declared.programs.Item.TheVariants.{Value, Chars}
use Rattle.f77_tree.specs.declared.programs.NameInfo.{NameInfo}
use Rattle.f77_tree.specs.declared.programs.Program.{Program}
use Rattle.f77_tree.specs.CanRun.{CanPrint}
use Rattle.f77_tree.specs.Value.{AllExpressions, IsExpression}
use Rattle.op_board.specs.Effects.{Effect}
use Rattle.operation_effects.specs.declared.tasks.Task.{Task}
use Rattle.operation_effects.specs.declared.tasks.Task.TheVariants as task
use Rattle.operation_effects.specs.Tasks.{CanPerform, TakesOperands}

mutual
  expression_prop : (names : List NameInfo) (e : Expr) → IsProp (IsExpression names e)
  expression_prop names (Const z) = hlevel props
  expression_prop names (Truth b) = hlevel props
  expression_prop names Input = hlevel props
  expression_prop names (Read' name shape subs) = hlevel (props, row_prop names subs)
  expression_prop names (Apply' op shape args) = hlevel (props, row_prop names args)

  row_prop : {m : _} → (names : List NameInfo) (row : Row_of-Expr m) → IsProp (AllExpressions names row)
  row_prop names end_of-Expr = hlevel props
  row_prop names (more_of-Expr e rest) = hlevel (props, expression_prop names e, row_prop names rest)

print_prop : (names : List NameInfo) (item : Item) → IsProp (CanPrint names item)
print_prop names (Value e) = expression_prop names e
print_prop names (Chars text) = hlevel props

pub can_prop : (p : Program) (t : Task) → IsProp (CanPerform p t)
can_prop p (task.Load word kind) = hlevel props
can_prop p (task.LoadAt word size kind) = hlevel props
can_prop p (task.Operate op) = hlevel props
can_prop p task.Add = hlevel props
can_prop p task.Sub = hlevel props
can_prop p task.Mul = hlevel props
can_prop p task.Lt = hlevel props
can_prop p task.Le = hlevel props
can_prop p task.Eq = hlevel props
can_prop p task.Ne = hlevel props
can_prop p task.Ge = hlevel props
can_prop p task.Gt = hlevel props
can_prop p task.Bound = hlevel props
can_prop p task.Place = hlevel props
can_prop p (task.Store word) = hlevel props
can_prop p (task.StoreAt word size) = hlevel props
can_prop p task.Take = hlevel props
can_prop p (task.Write items) = hlevel (props, print_prop)
can_prop p (task.Begin loop_no word) = hlevel props
can_prop p (task.Advance loop_no word) = hlevel props
can_prop p task.DecideTruth = hlevel props
can_prop p task.DecideSign = hlevel props
can_prop p (task.DecideNumber count) = hlevel props
can_prop p (task.DecideTrips loop_no) = hlevel props
can_prop p task.DecideFirst = hlevel props

pub takes_prop : (t : Task) (count : ℕ) → IsProp (TakesOperands t count)
takes_prop (task.Load word kind) count = hlevel props
takes_prop (task.LoadAt word size kind) count = hlevel props
takes_prop (task.Operate op) count = hlevel props
takes_prop task.Add count = hlevel props
takes_prop task.Sub count = hlevel props
takes_prop task.Mul count = hlevel props
takes_prop task.Lt count = hlevel props
takes_prop task.Le count = hlevel props
takes_prop task.Eq count = hlevel props
takes_prop task.Ne count = hlevel props
takes_prop task.Ge count = hlevel props
takes_prop task.Gt count = hlevel props
takes_prop task.Bound count = hlevel props
takes_prop task.Place count = hlevel props
takes_prop (task.Store word) count = hlevel props
takes_prop (task.StoreAt word size) count = hlevel props
takes_prop task.Take count = hlevel props
takes_prop (task.Write items) count = hlevel props
takes_prop (task.Begin loop_no word) count = hlevel props
takes_prop (task.Advance loop_no word) count = hlevel props
takes_prop task.DecideTruth count = hlevel props
takes_prop task.DecideSign count = hlevel props
takes_prop (task.DecideNumber number) count = hlevel props
takes_prop (task.DecideTrips loop_no) count = hlevel props
takes_prop task.DecideFirst count = hlevel props

pub result_prop : (a b : Result Effect Trap) → IsProp (a ≡ b)
result_prop a b = hlevel (props, ⊎_set)
