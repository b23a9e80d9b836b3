-- Expressions in which no word and no data are read.
use Rattle.std.specs.Prelude.{Bool, true, false, ◌&&◌}
use Rattle.f77_tree.specs.declared.expressions.Expr.{Expr, Row_of-Expr, end_of-Expr, more_of-Expr}
use Rattle.f77_tree.specs.declared.expressions.Expr.TheVariants.{Const, Truth, Input, Read', Apply'}

abbrev mutual
  pub is_constant : Expr → Bool
  is_constant (Const z) = true
  is_constant (Truth b) = true
  is_constant Input = false
  is_constant (Read' name shape subs) = false
  is_constant (Apply' op shape args) = is_constant_row args

  pub is_constant_row : {m : _} → Row_of-Expr m → Bool
  is_constant_row end_of-Expr = true
  is_constant_row (more_of-Expr e rest) = is_constant e && is_constant_row rest
