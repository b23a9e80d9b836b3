-- Candidates: operations that may be done once and their values used again.
use Rattle.std.specs.Prelude.{◌≡◌, Bool, true, false, ◌==◌, ◌||◌, ◌&&◌, List, [], ◌∷◌, ◌++◌}
use Rattle.std.specs.Option.{is_some}
use Rattle.f77_tree.specs.declared.expressions.Expr.{Expr, Row_of-Expr, end_of-Expr, more_of-Expr}
use Rattle.f77_tree.specs.declared.expressions.Expr.TheVariants.{Const, Truth, Input, Read', Apply'}
use Rattle.f77_tree.specs.declared.programs.NameInfo.{NameInfo}
use Rattle.f77_tree.specs.Known.{known, MayTrap}
use Rattle.f77_tree.specs.Value.{row_length}

-- ---- operations that can be shared

-- a name without subscripts
abbrev pub is_scalar : Expr → Bool
is_scalar (Read' name shape subs) = row_length subs == 0
is_scalar _ = false

-- an operand that needs no work: a name without subscripts, or an expression whose value is known
abbrev pub is_plain : Expr → Bool
is_plain e = is_scalar e || is_some (known e)

abbrev pub are_plain : {m : _} → Row_of-Expr m → Bool
are_plain end_of-Expr = true
are_plain (more_of-Expr e rest) = is_plain e && are_plain rest

abbrev pub has_scalar : {m : _} → Row_of-Expr m → Bool
has_scalar end_of-Expr = false
has_scalar (more_of-Expr e rest) = is_scalar e || has_scalar rest

-- an operator that can't trap, each operand of which is a name without subscripts or has a known value, and at least one is
-- such a name
abbrev pub IsCandidate : List NameInfo → Expr → Type 0
IsCandidate names (Apply' op shape args) = (are_plain args ≡ true) × (has_scalar args ≡ true) × (MayTrap names (Apply' op shape args) → ⊥)
IsCandidate names _ = ⊥

-- ---- what stands in expressions

abbrev mutual
  -- an expression and all that stands in it, in the order of evaluation: from left to right, and what an operator or a read
  -- needs before it
  pub subexpressions : Expr → List Expr
  subexpressions (Const z) = Const z ∷ []
  subexpressions (Truth b) = Truth b ∷ []
  subexpressions Input = Input ∷ []
  subexpressions (Read' name shape subs) = row_subexpressions subs ++ Read' name shape subs ∷ []
  subexpressions (Apply' op shape args) = row_subexpressions args ++ Apply' op shape args ∷ []

  pub row_subexpressions : {m : _} → Row_of-Expr m → List Expr
  row_subexpressions end_of-Expr = []
  row_subexpressions (more_of-Expr e rest) = subexpressions e ++ row_subexpressions rest
