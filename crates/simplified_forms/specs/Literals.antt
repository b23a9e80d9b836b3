-- Values as a source writes them (ANSI X3.9-1978, sections 4.3 and 4.7).
use Rattle.std.specs.Prelude.{ℕ, ℤ, pos, negsuc, suc, Bool, ◌==◌, if◌then◌else◌, [], ◌∷◌, Option, Some, None}
use Rattle.op_table.specs.declared.Op.{Op}
use Rattle.op_table.specs.declared.Op.TheVariants.{Neg, Sub, NegChecked, SubChecked}
use Rattle.op_table.specs.Words.{is_true}
use Rattle.f77_tree.specs.declared.declarations.Kind.{Kind}
use Rattle.f77_tree.specs.declared.declarations.Kind.TheVariants.{Integer, Logical}
use Rattle.f77_tree.specs.declared.expressions.Expr.{Expr}
use Rattle.f77_tree.specs.declared.expressions.Expr.TheVariants.{Const, Truth, Apply}

-- the operators of a sign and of a difference in each dialect
abbrev pub minus : (checked : Bool) → Op
minus checked = if checked then NegChecked else Neg

abbrev pub difference : (checked : Bool) → Op
difference checked = if checked then SubChecked else Sub

-- a constant after a minus sign
abbrev pub negative : (checked : Bool) → ℕ → Expr
negative checked n = Apply (minus checked) (Const (pos n) ∷ [])

-- The least word has no digits that a constant can have, so it is written -2147483647-1.
abbrev pub least_literal : (checked : Bool) → Expr
least_literal checked = Apply (difference checked) (negative checked 2147483647 ∷ Const (pos 1) ∷ [])

-- the negative number -(n + 1)
abbrev pub negative_literal : (checked : Bool) → ℕ → Expr
negative_literal checked n = if n == 2147483647 then least_literal checked else negative checked (suc n)

abbrev pub integer_literal : (checked : Bool) → ℤ → Expr
integer_literal checked (pos n) = Const (pos n)
integer_literal checked (negsuc n) = negative_literal checked n

-- a value of a kind
abbrev pub literal : (checked : Bool) → Kind → ℤ → Expr
literal checked Integer z = integer_literal checked z
literal checked Logical z = Truth (is_true z)

-- a value where it is told, else the expression
abbrev pub literal_or : (checked : Bool) → Kind → Option ℤ → Expr → Expr
literal_or checked kind None e = e
literal_or checked kind (Some z) e = literal checked kind z
