-- What contracts see of the operations of a net.
use Rattle.std.specs.Prelude.{ℕ}
use Rattle.op_board.specs.OperationNets.{OperationNet}
use Rattle.operation_tables.specs.declared.plan.OperationPlan.{OperationPlan}
use Rattle.operation_tables.specs.PieceView.{net_with_operations}

module _ {W : ℕ} where
  -- what firings never change
  abbrev pub operations_in : OperationPlan W → OperationNet
  operations_in plan = net_with_operations plan.board plan.pieces.items
