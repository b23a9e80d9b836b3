-- What contracts see of a net of operations with its tables.
use Rattle.std.specs.Prelude.{ℕ}
use Rattle.op_board.specs.OperationNets.{OperationNet}
use Rattle.operation_tables.specs.declared.lookups.OperationBoard.{OperationBoard}
use Rattle.operation_tables.specs.PlanView.{operations_in}

module _ {W : ℕ} where
  abbrev pub operation_net_on : OperationBoard W → OperationNet
  operation_net_on board = operations_in board.plan
