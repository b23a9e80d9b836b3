-- Subscripts that are a multiple of a variable and a constant.
use Rattle.std.specs.Prelude.{ℕ, ℤ, pos, neg_ℤ, ◌+ℤ◌, ◌*ℤ◌, ◌==◌, if◌then◌else◌, List, [], ◌∷◌, Option, Some, None}
use Rattle.op_table.specs.declared.Op.{Op}
use Rattle.op_table.specs.declared.Op.TheVariants.{Add, Sub, Mul, AddChecked, SubChecked, MulChecked}
use Rattle.f77_tree.specs.declared.expressions.Expr.{Expr, Row_of-Expr, end_of-Expr, more_of-Expr}
use Rattle.f77_tree.specs.declared.expressions.Expr.TheVariants.{Read', Apply'}
use Rattle.f77_tree.specs.Known.{known}

-- a whole number for each value of a variable
pub record Linear : Type 0 where
  pub factor : ℤ
  pub constant : ℤ

abbrev pub linear_at : Linear → ℤ → ℤ
linear_at form v = form.factor *ℤ v +ℤ form.constant

-- ---- operands

-- an operand is the variable, read under its own name, or a number that is known before the program runs, or neither
pub data Operand : Type 0 where
  Variable : Operand
  Number : (k : ℤ) → Operand
  Other : Operand

abbrev pub of_known : Option ℤ → Operand
of_known None = Other
of_known (Some k) = Number k

abbrev pub operand : (variable : ℕ) → Expr → Operand
operand variable (Read' name shape subs) = if name == variable then Variable else Other
operand variable e = of_known (known e)

abbrev pub row_operands : {m : _} → (variable : ℕ) → Row_of-Expr m → List Operand
row_operands variable end_of-Expr = []
row_operands variable (more_of-Expr e rest) = operand variable e ∷ row_operands variable rest

-- ---- the forms

-- V
abbrev pub alone : Operand → Option Linear
alone Variable = Some (record { factor = pos 1; constant = pos 0 })
alone _ = None

-- V + k and k + V
abbrev pub sum : Operand → Operand → Option Linear
sum Variable (Number k) = Some (record { factor = pos 1; constant = k })
sum (Number k) Variable = Some (record { factor = pos 1; constant = k })
sum _ _ = None

-- V - k
abbrev pub difference : Operand → Operand → Option Linear
difference Variable (Number k) = Some (record { factor = pos 1; constant = neg_ℤ k })
difference _ _ = None

-- V * k and k * V
abbrev pub product : Operand → Operand → Option Linear
product Variable (Number k) = Some (record { factor = k; constant = pos 0 })
product (Number k) Variable = Some (record { factor = k; constant = pos 0 })
product _ _ = None

-- the operators of either dialect
abbrev pub of_two : Op → Operand → Operand → Option Linear
of_two Add x y = sum x y
of_two AddChecked x y = sum x y
of_two Sub x y = difference x y
of_two SubChecked x y = difference x y
of_two Mul x y = product x y
of_two MulChecked x y = product x y
of_two _ x y = None

abbrev pub combined : Op → List Operand → Option Linear
combined op (x ∷ y ∷ []) = of_two op x y
combined op _ = None

-- what a subscript is of a variable, where it has one of these forms
abbrev pub linear_in : (variable : ℕ) → Expr → Option Linear
linear_in variable (Apply' op shape args) = combined op (row_operands variable args)
linear_in variable e = alone (operand variable e)
