-- Expressions whose constants a source can write.
use Rattle.std.specs.Prelude.{nat_abs, ◌≤◌}
use Rattle.f77_tree.specs.declared.expressions.Expr.{Expr, Row_of-Expr, end_of-Expr, more_of-Expr}
use Rattle.f77_tree.specs.declared.expressions.Expr.TheVariants.{Const, Truth, Input, Read', Apply'}
use Rattle.f77_tree.specs.Grammar.{greatest_constant}

abbrev mutual
  -- no constant is above the greatest one
  pub HasConstants : Expr → Type 0
  HasConstants (Const z) = nat_abs z ≤ greatest_constant
  HasConstants (Truth b) = Unit {0}
  HasConstants Input = Unit {0}
  HasConstants (Read' name shape subs) = HaveConstants subs
  HasConstants (Apply' op shape args) = HaveConstants args

  pub HaveConstants : {m : _} → Row_of-Expr m → Type 0
  HaveConstants end_of-Expr = Unit {0}
  HaveConstants (more_of-Expr e rest) = HasConstants e × HaveConstants rest
