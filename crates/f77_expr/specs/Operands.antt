-- Operands and subscripts as lists.
use Rattle.std.specs.Prelude.{◌≡◌, ◌<◌, ℕ, true, List, length, All, map}
use Rattle.op_table.specs.declared.Op.{Op}
use Rattle.op_table.specs.declared.Op.TheVariants.{Neg, Not, Mod, Abs, Sign, Max, Min}
use Rattle.op_table.specs.Operators.{arity_of}
use Rattle.f77_tree.specs.declared.expressions.Access.{Access}
use Rattle.f77_tree.specs.declared.expressions.Expr.{Expr}
use Rattle.f77_tree.specs.declared.programs.NameInfo.{NameInfo}
use Rattle.f77_tree.specs.Grammar.{operator_level}
use Rattle.f77_tree.specs.Kinds.{is_written, IsProper}
use Rattle.f77_expr.specs.Printing.{Printed, plain, name_at, printed, printed_operator, printed_access}

-- an operator that a source can write, and as many expressions as it takes
pub record AreOperands (names : List NameInfo) (op : Op) (args : List Expr) : Type 0 where
  pub written : is_written op ≡ true
  pub as_many : length args ≡ arity_of op
  pub each : All (IsProper names) args

-- a name of the table, and expressions
pub record AreSubscripts (names : List NameInfo) (access : Access) : Type 0 where
  pub known : access.name < length names
  pub each : All (IsProper names) access.subs

-- the level of what an operator at its operands is printed as
abbrev pub printed_level : Op → ℕ
printed_level Neg = 5
printed_level Not = 3
printed_level Mod = 8
printed_level Abs = 8
printed_level Sign = 8
printed_level Max = 8
printed_level Min = 8
printed_level op = operator_level op

-- an operator at its operands, as it is printed
abbrev pub operator_at : List NameInfo → Op → List Expr → Printed
operator_at names op args = printed_operator (plain op) (map (printed names) args)

-- an access, as it is printed
abbrev pub access_at : List NameInfo → Access → Printed
access_at names access = printed_access (name_at names access.name) (map (printed names) access.subs)
