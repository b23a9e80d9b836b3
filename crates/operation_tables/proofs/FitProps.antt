-- What operations need of their program are propositions.
use Rattle.std.proofs.Common.{ℕ, List, get_or}
use Rattle.std.proofs.Props.{props}
use Rattle.f77_tree.specs.declared.expressions.Expr.{Expr, Row_of-Expr, end_of-Expr, more_of-Expr}
use Rattle.f77_tree.specs.declared.expressions.Expr.TheVariants.{Const, Truth, Input, Read', Apply'}
use Rattle.f77_tree.specs.declared.programs.Item.{Item}
use Rattle.f77_tree.specs.declared.programs.Item.TheVariants.{Value, Chars}
use Rattle.f77_tree.specs.declared.programs.NameInfo.{NameInfo}
use Rattle.f77_tree.specs.declared.programs.Program.{Program}
use Rattle.f77_tree.specs.CanRun.{CanPrint}
use Rattle.f77_tree.specs.Value.{AllExpressions, IsExpression}
use Rattle.op_board.specs.Operations.{Work, Load, Operate, Store, Take, Write, Begin, Advance, DecideTruth, DecideSign, DecideNumber, DecideTrips, DecideFirst}
use Rattle.operation_effects.specs.Works.{FitsProgram}

mutual
  expression_prop : (names : List NameInfo) (e : Expr) → IsProp (IsExpression names e)
  expression_prop names (Const z) = hlevel props
  expression_prop names (Truth b) = hlevel props
  expression_prop names Input = hlevel props
  expression_prop names (Read' name shape subs) = let h = row_prop names _ subs in hlevel (props, h)
  expression_prop names (Apply' op shape args) = let h = row_prop names _ args in hlevel (props, h)

  row_prop : (names : List NameInfo) (m : _) (row : Row_of-Expr m) → IsProp (AllExpressions names row)
  row_prop names m end_of-Expr = hlevel props
  row_prop names m (more_of-Expr e rest) = let h = expression_prop names e in let k = row_prop names _ rest in hlevel (props, h, k)

print_prop : (names : List NameInfo) (item : Item) → IsProp (CanPrint names item)
print_prop names (Value e) = expression_prop names e
print_prop names (Chars text) = hlevel props

pub fits_prop : (p : Program) (work : Work) → IsProp (FitsProgram p work)
fits_prop p (Load name subs) = hlevel props
fits_prop p (Operate op) = hlevel props
fits_prop p (Store name subs) = hlevel props
fits_prop p Take = hlevel props
fits_prop p (Write items) = let h : (k : ℕ) (d : Item) → IsProp (CanPrint p.names (get_or items k d)) = λ k d. print_prop p.names (get_or items k d) in hlevel (props, h)
fits_prop p (Begin loop_no var) = hlevel props
fits_prop p (Advance loop_no var) = hlevel props
fits_prop p DecideTruth = hlevel props
fits_prop p DecideSign = hlevel props
fits_prop p (DecideNumber count) = hlevel props
fits_prop p (DecideTrips loop_no) = hlevel props
fits_prop p DecideFirst = hlevel props
