-- Subscripts that are seen to lie within the bounds of their dimension, since the variable of a DO runs through known values.
use Rattle.std.specs.Prelude.{◌≡◌, ℕ, ◌-◌, ℤ, ◌≤ℤ◌, Some}
use Rattle.f77_tree.specs.declared.declarations.Dim.{Dim}
use Rattle.f77_tree.specs.declared.expressions.Expr.{Expr}
use Rattle.f77_tree.specs.declared.programs.Program.{Program}
use Rattle.f77_tree.specs.Declarations.{IsDim}
use Rattle.f77_tree.specs.Loops.{Loop}
use Rattle.alias_classes.specs.Classes.{ClassTable}
use Rattle.loop_ranges.specs.Linear.{Linear, linear_at, linear_in}
use Rattle.loop_ranges.specs.Plain.{Parameters, count_of, value_after, IsBetween, IsPlain}

-- a whole number lies within the bounds of a dimension
pub record LiesIn (dim : Dim) (z : ℤ) : Type 0 where
  pub lower : dim.lo ≤ℤ z
  pub upper : z ≤ℤ dim.hi

-- A subscript of this dimension, in the executable k, is seen in range: the executable lies between the DoStart and the DoNext of a
-- plain DO, the subscript is linear in its variable, and its whole numbers for the first and the last value that the variable has in
-- the range lie within the bounds.
pub record IsSeenInRange (p : Program) (t : ClassTable) (k : ℕ) (sub : Expr) (dim : Dim) : Type 0 where
  pub number : ℕ
  pub loop : Loop
  pub parameters : Parameters
  pub form : Linear
  pub plain : IsPlain p t number loop parameters
  pub between : IsBetween p.execs number k
  pub linear : linear_in loop.variable sub ≡ Some form
  pub dimension : IsDim dim
  pub at_first : LiesIn dim (linear_at form parameters.first)
  pub at_last : LiesIn dim (linear_at form (value_after parameters (count_of parameters - 1)))
