-- Why an expression or an executable traps, where constants make that sure.
use Rattle.std.specs.Prelude.{zero, ℤ, pos, Bool, true, false, if◌then◌else◌, ◌&&◌, ◌||◌, List, [], ◌∷◌, map, Option, Some, None, is_some, is_none, int_lt}
use Rattle.std.specs.List.{list_all}
use Rattle.std.specs.Option.{option_or}
use Rattle.op_table.specs.declared.Op.{Op}
use Rattle.op_table.specs.declared.Op.TheVariants.{Div, Mod, Step}
use Rattle.op_table.specs.Known.{folded}
use Rattle.f77_tree.specs.declared.declarations.Dim.{Dim}
use Rattle.f77_tree.specs.declared.expressions.Access.{Access}
use Rattle.f77_tree.specs.declared.expressions.Expr.{Expr, Row_of-Expr, end_of-Expr, more_of-Expr}
use Rattle.f77_tree.specs.declared.expressions.Expr.TheVariants.{Const, Truth, Input, Read, Read', Apply'}
use Rattle.f77_tree.specs.declared.programs.ExecKind.{ExecKind}
use Rattle.f77_tree.specs.declared.programs.ExecKind.TheVariants.{Assign, Print, Pass, Test, Sign, Pick, DoStart, DoNext, End}
use Rattle.f77_tree.specs.declared.programs.Item.{Item}
use Rattle.f77_tree.specs.declared.programs.Item.TheVariants.{Value, Chars}
use Rattle.f77_tree.specs.declared.programs.NameInfo.{NameInfo}
use Rattle.f77_tree.specs.Known.{known, row_known}
use Rattle.f77_tree.specs.Value.{dims_of}
use Rattle.sure_traps.specs.declared.causes.Cause.{Cause}
use Rattle.sure_traps.specs.declared.causes.Cause.TheVariants.{Operator, Subscript}

-- the first that there is
abbrev pub first_some : {A : Type 0} → List (Option A) → Option A
first_some [] = None
first_some (x ∷ xs) = option_or x (first_some xs)

-- ---- operators

-- the operator divides by its second operand
abbrev pub divides : Op → Bool
divides Div = true
divides Mod = true
divides _ = false

-- it divides by an operand that is known to be 0
abbrev pub divides_by_zero : Op → List (Option ℤ) → Bool
divides_by_zero op (a ∷ Some (pos zero) ∷ []) = divides op
divides_by_zero op _ = false

-- it has no value at operands that are all known
abbrev pub has_no_value : Op → List (Option ℤ) → Bool
has_no_value op known = list_all is_some known && is_none (folded op known)

abbrev pub operator_cause : Op → List (Option ℤ) → Option Cause
operator_cause op known = if has_no_value op known || divides_by_zero op known then Some (Operator op) else None

-- ---- subscripts

-- a value outside the bounds of a dimension
abbrev pub bound_cause : Dim → Option ℤ → Option Cause
bound_cause dim None = None
bound_cause dim (Some v) = if int_lt v dim.lo || int_lt dim.hi v then Some (Subscript v dim) else None

-- ---- expressions: what is found first, from the left, in operands before their operator, and in a subscript before its bounds

abbrev mutual
  pub cause_in : List NameInfo → Expr → Option Cause
  cause_in names (Const z) = None
  cause_in names (Truth b) = None
  cause_in names Input = None
  cause_in names (Read' name shape subs) = row_subscripts names (dims_of names name) subs
  cause_in names (Apply' op shape args) = option_or (row_cause names args) (operator_cause op (row_known args))

  pub row_cause : {m : _} → List NameInfo → Row_of-Expr m → Option Cause
  row_cause names end_of-Expr = None
  row_cause names (more_of-Expr e rest) = option_or (cause_in names e) (row_cause names rest)

  pub row_subscripts : {m : _} → List NameInfo → List Dim → Row_of-Expr m → Option Cause
  row_subscripts names dims end_of-Expr = None
  row_subscripts names [] (more_of-Expr e rest) = None
  row_subscripts names (dim ∷ dims) (more_of-Expr e rest) = option_or (option_or (cause_in names e) (bound_cause dim (known e))) (row_subscripts names dims rest)

-- of a subscript of a dimension, if there is one
abbrev pub subscript_cause : List NameInfo → Option Dim → Expr → Option Cause
subscript_cause names None e = None
subscript_cause names (Some dim) e = option_or (cause_in names e) (bound_cause dim (known e))

abbrev pub access_cause : List NameInfo → Access → Option Cause
access_cause names access = cause_in names (Read access)

-- ---- executables

abbrev pub item_cause : List NameInfo → Item → Option Cause
item_cause names (Value e) = cause_in names e
item_cause names (Chars text) = None

-- the step of a DO is 0
abbrev pub step_cause : List NameInfo → Expr → Option Cause
step_cause names step = option_or (cause_in names step) (operator_cause Step (known step ∷ []))

abbrev pub cause_of : List NameInfo → ExecKind → Option Cause
cause_of names (Assign target e next) = option_or (access_cause names target) (cause_in names e)
cause_of names (Print items next) = first_some (map (item_cause names) items)
cause_of names (Pass next) = None
cause_of names (Test cond yes' no') = cause_in names cond
cause_of names (Sign e neg zero' pos') = cause_in names e
cause_of names (Pick e targets other) = cause_in names e
cause_of names (DoStart loop_no var first last step body exit) = option_or (cause_in names first) (option_or (cause_in names last) (step_cause names step))
cause_of names (DoNext loop_no var body exit) = None
cause_of names End = None
