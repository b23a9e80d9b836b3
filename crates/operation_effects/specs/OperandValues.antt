-- The values of operands that are known, or are among the values that earlier operations gave.
use Rattle.std.specs.Prelude.{◌<◌, ℕ, ℤ, List, map}
use Rattle.op_board.specs.Effects.{operand_at}
use Rattle.op_board.specs.Operations as board
use Rattle.operation_lists.specs.Seen.{operand_seen}
use Rattle.operation_lists.specs.declared.operations.Operand.{Operand}

-- an operand that isn't known is one of so many values
abbrev pub IsAmong : (count : ℕ) → board.Operand → Type 0
IsAmong count (board.Known z) = Unit {0}
IsAmong count (board.From number) = number < count

-- the values of operands
abbrev pub operand_values : (values : List ℤ) → List Operand → List ℤ
operand_values values operands = map (operand_at values) (map operand_seen operands)
