-- What is told of the operations of a net.
use Rattle.std.specs.Prelude.{ℕ, ◌+◌, List, map}
use Rattle.firing.specs.declared.system.NodeName.{NodeName}
use Rattle.firing.specs.declared.system.NodeName.TheVariants.{Op}
use Rattle.op_board.specs.Operations as board
use Rattle.op_board.specs.OperationNets.{OperationNet, first_operation, operation_at}
use Rattle.operation_lists.specs.declared.operations.Operand.{Operand}
use Rattle.operation_lists.specs.declared.operations.Operand.TheVariants as operand
use Rattle.operation_tables.specs.declared.telling.OpName.{OpName}
use Rattle.operation_tables.specs.declared.telling.OpName.TheVariants as name

-- the node is an operation
abbrev pub IsOperation : NodeName → Type 0
IsOperation (Op piece i) = Unit {0}
IsOperation _ = ⊥

-- its piece, and its number there
abbrev pub piece_of : NodeName → ℕ
piece_of (Op piece i) = piece
piece_of _ = 0

abbrev pub number_of : NodeName → ℕ
number_of (Op piece i) = i
number_of _ = 0

abbrev pub operation_name : board.Work → OpName
operation_name (board.Load array subs) = name.Load
operation_name (board.Operate op) = name.Apply op
operation_name (board.Store array subs) = name.Store
operation_name board.Take = name.Take
operation_name (board.Write items) = name.Write
operation_name (board.Begin loop_no var) = name.Begin
operation_name (board.Advance loop_no var) = name.Advance
operation_name board.DecideTruth = name.Decide
operation_name board.DecideSign = name.Decide
operation_name (board.DecideNumber count) = name.Decide
operation_name (board.DecideTrips loop_no) = name.Decide
operation_name board.DecideFirst = name.Decide

-- an operand as a node of the net, where the piece has this first node
abbrev pub node_operand : (first : ℕ) → board.Operand → Operand
node_operand first (board.From number) = operand.Node (first + number)
node_operand first (board.Known z) = operand.Known z

abbrev pub node_operands : OperationNet → (piece i : ℕ) → List Operand
node_operands x piece i = map (node_operand (first_operation x piece)) (operation_at x piece i).operands
