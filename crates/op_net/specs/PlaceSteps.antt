-- What the firing of an operation changes of the places, operand by operand and line by line.
use Rattle.std.specs.Prelude.{◌+◌, ℕ, suc, if◌then◌else◌, Some, None}
use Rattle.net_board.specs.Tokens.{edge_of, led_from}
use Rattle.op_board.specs.OperationNets.{OperationNet, first_operation, is_last_at, needing_before}
use Rattle.op_board.specs.OperationTokens.{OperationTokens}
use Rattle.op_board.specs.Operations.{Operand, Known, From}
use Rattle.operation_tables.specs.OperationRows.{IsTaker}
use Rattle.operation_places.specs.PlacesView.{edge_put, line_put, value_put}

-- the operand is one of this operation of the piece
abbrev pub IsOwnOperand : OperationNet → (piece i : ℕ) → Operand → Type 0
IsOwnOperand x piece i (Known z) = Unit {0}
IsOwnOperand x piece i (From number) = IsTaker x piece number i

-- its value is taken
abbrev pub operand_taken : OperationNet → (piece : ℕ) → OperationTokens → Operand → OperationTokens
operand_taken x piece m (Known z) = m
operand_taken x piece m (From number) = value_put m (first_operation x piece + number) None

-- how many values are taken for the operand
abbrev pub values_for : Operand → ℕ
values_for (Known z) = 0
values_for (From number) = 1

-- A line that stands before the operation has passed it, or is led along the edge where no later operation of the piece needs it.
abbrev pub line_moved : OperationNet → (piece i edge : ℕ) → OperationTokens → (line : ℕ) → OperationTokens
line_moved x piece i edge m line = if is_last_at x piece i line then line_put m line (led_from x.net edge line) 0 else line_put m line (edge_of m.tokens line) (suc (needing_before x piece i line))

abbrev pub line_dropped : OperationTokens → (line : ℕ) → OperationTokens
line_dropped m line = line_put m line None 0

abbrev pub edge_left : (edge : ℕ) → OperationTokens → (switch : ℕ) → OperationTokens
edge_left edge m switch = edge_put m switch (Some edge)
