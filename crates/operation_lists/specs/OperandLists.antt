-- The operations of expressions that stand in a list.
use Rattle.std.specs.Prelude.{List, [], ◌∷◌, ◌++◌}
use Rattle.f77_tree.specs.declared.expressions.Expr.{Expr}
use Rattle.f77_tree.specs.declared.programs.NameInfo.{NameInfo}
use Rattle.op_board.specs.Operations.{Operand, Operation, CompiledRow, compiled}

-- the operations so far, and those of the expressions after them, from left to right
abbrev pub operands_compiled : List NameInfo → List Operation → List Expr → CompiledRow
operands_compiled names done [] = record { done = done; operands = [] }
operands_compiled names done (e ∷ es) =
    let first = compiled names done e in
    let others = operands_compiled names first.done es in
    record { done = others.done; operands = first.operand ∷ others.operands }

-- the operands so far before those of the rest
abbrev pub row_after : List Operand → CompiledRow → CompiledRow
row_after operands c = record { done = c.done; operands = operands ++ c.operands }
