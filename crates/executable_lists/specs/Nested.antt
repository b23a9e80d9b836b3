-- Operands of an operator that are taken pair by pair.
use Rattle.std.specs.Prelude.{if◌then◌else◌, nat_lt, List, [], ◌∷◌, ◌++◌, length}
use Rattle.op_table.specs.declared.Op.{Op}
use Rattle.f77_tree.specs.declared.expressions.Expr.{Expr}
use Rattle.f77_tree.specs.declared.expressions.Expr.TheVariants.{Apply}

-- one operand more: two that are there already become one, the operator at them
abbrev pub with_operand : Op → List Expr → Expr → List Expr
with_operand op operands operand = if nat_lt (length operands) 2 then operands ++ operand ∷ [] else Apply op operands ∷ operand ∷ []
