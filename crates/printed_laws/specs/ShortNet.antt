-- Nets of operations whose numbers have 32 bits.
use Rattle.std.specs.Prelude.{ℕ, ◌+◌, ◌<◌, ◌^◌, List, All, length}
use Rattle.op_table.specs.Words.{IsWord}
use Rattle.firing.specs.declared.system.NodeName.{NodeName}
use Rattle.firing.specs.declared.system.NodeName.TheVariants as name
use Rattle.op_board.specs.Operations.{Operand, Known, From}
use Rattle.operation_lists.specs.declared.operations.Operand.{Operand as Given}
use Rattle.operation_lists.specs.declared.operations.Operand.TheVariants as given
use Rattle.op_board.specs.OperationNets.{OperationNet, all_operation_nodes, first_operation, operation_at, operation_node}
use Rattle.operation_tables.specs.Telling.{number_of, piece_of}

-- an operand that is the number of a node, or a word
abbrev pub IsShortGiven : Given → Type 0
IsShortGiven (given.Node giver) = giver < 2 ^ 32
IsShortGiven (given.Known z) = IsWord z

-- the number of the node that gives an operand of a piece, or its known value
abbrev pub IsShortOperand : OperationNet → (piece : ℕ) → Operand → Type 0
IsShortOperand x piece (From number) = first_operation x piece + number < 2 ^ 32
IsShortOperand x piece (Known z) = IsWord z

-- their count, and each of them
pub record AreShortOperands (x : OperationNet) (piece : ℕ) (operands : List Operand) : Type 0 where
  pub few : length operands < 2 ^ 32
  pub each : All (IsShortOperand x piece) operands

-- the operands of a node, where it is an operation
abbrev pub HasShortOperands : OperationNet → NodeName → Type 0
HasShortOperands x (name.Op piece i) = AreShortOperands x piece (operation_at x piece i).operands
HasShortOperands x _ = Unit {0}

abbrev pub HaveShortOperandsBelow : OperationNet → (count : ℕ) → Type 0
HaveShortOperandsBelow x count = (k : ℕ) → k < count → HasShortOperands x (operation_node x k)

-- the count of its nodes, and the operands of each
pub record IsShortNet (x : OperationNet) : Type 0 where
  pub nodes : length (all_operation_nodes x) < 2 ^ 32
  pub operands : HaveShortOperandsBelow x (length (all_operation_nodes x))

-- the operands of an operation of the net
abbrev pub HasShortOperandsAt : OperationNet → (k : ℕ) → Type 0
HasShortOperandsAt x k =
    AreShortOperands x (piece_of (operation_node x k)) (operation_at x (piece_of (operation_node x k)) (number_of (operation_node x k))).operands
