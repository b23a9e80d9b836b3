-- Expressions over the table of names: names become indices, calls of intrinsic functions become operators, and the dialect
-- chooses the rows of arithmetic (ANSI X3.9-1978, sections 6 and 15.10).
use Rattle.std.specs.Prelude.{ℕ, pos, Bool, true, false, if◌then◌else◌, List, [], ◌∷◌, fold, Option, Some, None, bytes_eq, find}
use Rattle.op_table.specs.declared.Op.{Op}
use Rattle.op_table.specs.declared.Op.TheVariants.{Add, Sub, Mul, Neg, Abs, Pow, AddChecked, SubChecked, MulChecked, NegChecked, AbsChecked, PowChecked}
use Rattle.f77_tree.specs.declared.expressions.Access.{Access}
use Rattle.f77_tree.specs.declared.expressions.Expr.{Expr}
use Rattle.f77_tree.specs.declared.expressions.Expr.TheVariants.{Const, Truth, Read, Apply}
use Rattle.f77_tree.specs.declared.programs.Item.{Item}
use Rattle.f77_tree.specs.declared.programs.Item.TheVariants.{Value, Chars}
use Rattle.f77_tree.specs.declared.statements.RawExpr.{RawExpr, Row_of-RawExpr, end_of-RawExpr, more_of-RawExpr}
use Rattle.f77_tree.specs.declared.statements.RawExpr.TheVariants.{Int as RawInt, Truth as RawTruth, Named, Call', Apply' as RawApply'}
use Rattle.f77_tree.specs.declared.statements.RawItem.{RawItem}
use Rattle.f77_tree.specs.declared.statements.RawItem.TheVariants.{Value as RawValue, Chars as RawChars}
use Rattle.f77_tree.specs.declared.programs.NameInfo.{NameInfo}
use Rattle.f77_tree.specs.Declarations.{index_of}
use Rattle.layout_rules.specs.Types.{Intrinsic, intrinsics, is_array_in}

-- an operator of the source, in the plain dialect or in the checked one, which traps where a result is no word
abbrev pub in_dialect : (checked : Bool) → Op → Op
in_dialect false op = op
in_dialect true Add = AddChecked
in_dialect true Sub = SubChecked
in_dialect true Mul = MulChecked
in_dialect true Neg = NegChecked
in_dialect true Abs = AbsChecked
in_dialect true Pow = PowChecked
in_dialect true op = op

-- the operator at the arguments; more of them than two are taken pair by pair, from the left
abbrev pub nested : Op → List Expr → Expr
nested op [] = Apply op []
nested op (a ∷ []) = Apply op (a ∷ [])
nested op (a ∷ b ∷ rest) = fold (λ e c. Apply op (e ∷ c ∷ [])) (Apply op (a ∷ b ∷ [])) rest

abbrev pub intrinsic_call : (checked : Bool) → Option Intrinsic → List Expr → Expr
intrinsic_call checked None args = Const (pos 0)
intrinsic_call checked (Some f) args = nested (in_dialect checked f.op) args

-- an element of an array, or an intrinsic function at its arguments
abbrev pub resolved_call : List NameInfo → (checked : Bool) → List ℕ → List Expr → Expr
resolved_call names checked name args =
    if is_array_in names name then Read (record { name = index_of names name; subs = args })
    else intrinsic_call checked (find (λ f. bytes_eq f.name name) intrinsics) args

abbrev mutual
  pub resolved : List NameInfo → (checked : Bool) → RawExpr → Expr
  resolved names checked (RawInt z) = Const z
  resolved names checked (RawTruth b) = Truth b
  resolved names checked (Named name) = Read (record { name = index_of names name; subs = [] })
  resolved names checked (Call' name shape args) = resolved_call names checked name (resolved_row names checked args)
  resolved names checked (RawApply' op shape args) = Apply (in_dialect checked op) (resolved_row names checked args)

  pub resolved_row : {m : _} → List NameInfo → (checked : Bool) → Row_of-RawExpr m → List Expr
  resolved_row names checked end_of-RawExpr = []
  resolved_row names checked (more_of-RawExpr e rest) = resolved names checked e ∷ resolved_row names checked rest

-- what the expression of a variable or an array element accesses
abbrev pub access_of : List NameInfo → (checked : Bool) → RawExpr → Access
access_of names checked (Named name) = record { name = index_of names name; subs = [] }
access_of names checked (Call' name shape args) = record { name = index_of names name; subs = resolved_row names checked args }
access_of names checked _ = record { name = 0; subs = [] }

abbrev pub resolved_item : List NameInfo → (checked : Bool) → RawItem → Item
resolved_item names checked (RawValue e) = Value (resolved names checked e)
resolved_item names checked (RawChars text) = Chars text

-- the step of a DO is 1 where none is written
abbrev pub resolved_step : List NameInfo → (checked : Bool) → Option RawExpr → Expr
resolved_step names checked None = Const (pos 1)
resolved_step names checked (Some e) = resolved names checked e
