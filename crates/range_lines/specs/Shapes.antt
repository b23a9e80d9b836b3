-- The shapes of subscripts: which variable they are a multiple of, and which constant is added.
use Rattle.std.specs.Prelude.{ℤ, pos, neg_ℤ, ◌+ℤ◌, ◌*ℤ◌, int_le, Bool, ◌&&◌, List, [], ◌∷◌, Option, Some, None}
use Rattle.op_table.specs.declared.Op.{Op}
use Rattle.op_table.specs.declared.Op.TheVariants.{Add, Sub, Mul, AddChecked, SubChecked, MulChecked}
use Rattle.f77_tree.specs.declared.declarations.Dim.{Dim}
use Rattle.f77_tree.specs.declared.expressions.Expr.{Expr, Row_of-Expr, end_of-Expr, more_of-Expr}
use Rattle.f77_tree.specs.declared.expressions.Expr.TheVariants.{Read', Apply'}
use Rattle.f77_tree.specs.Known.{known}
use Rattle.range_lines.specs.declared.shapes.Shape.{Shape}
use Rattle.range_lines.specs.declared.shapes.Term.{Term}
use Rattle.range_lines.specs.declared.shapes.Term.TheVariants.{Name, Number, Other}

-- the number at a value of the variable
abbrev pub shape_at : Shape → ℤ → ℤ
shape_at shape v = shape.factor *ℤ v +ℤ shape.constant

-- the number lies within the bounds of a dimension
abbrev pub lies_in : Dim → ℤ → Bool
lies_in dim z = int_le dim.lo z && int_le z dim.hi

-- ---- operands

abbrev pub of_known : Option ℤ → Term
of_known None = Other
of_known (Some k) = Number k

abbrev pub term_of : Expr → Term
term_of (Read' name shape subs) = Name name
term_of e = of_known (known e)

abbrev pub row_terms : {m : _} → Row_of-Expr m → List Term
row_terms end_of-Expr = []
row_terms (more_of-Expr e rest) = term_of e ∷ row_terms rest

-- ---- shapes

abbrev pub alone : Term → Option Shape
alone (Name v) = Some (record { variable = v; factor = pos 1; constant = pos 0 })
alone _ = None

abbrev pub sum : Term → Term → Option Shape
sum (Name v) (Number k) = Some (record { variable = v; factor = pos 1; constant = k })
sum (Number k) (Name v) = Some (record { variable = v; factor = pos 1; constant = k })
sum _ _ = None

abbrev pub difference : Term → Term → Option Shape
difference (Name v) (Number k) = Some (record { variable = v; factor = pos 1; constant = neg_ℤ k })
difference _ _ = None

abbrev pub product : Term → Term → Option Shape
product (Name v) (Number k) = Some (record { variable = v; factor = k; constant = pos 0 })
product (Number k) (Name v) = Some (record { variable = v; factor = k; constant = pos 0 })
product _ _ = None

abbrev pub combined : Op → Term → Term → Option Shape
combined Add x y = sum x y
combined AddChecked x y = sum x y
combined Sub x y = difference x y
combined SubChecked x y = difference x y
combined Mul x y = product x y
combined MulChecked x y = product x y
combined _ x y = None

abbrev pub of_operands : Op → List Term → Option Shape
of_operands op (x ∷ y ∷ []) = combined op x y
of_operands op _ = None

abbrev pub shape_of : Expr → Option Shape
shape_of (Apply' op shape args) = of_operands op (row_terms args)
shape_of e = alone (term_of e)
