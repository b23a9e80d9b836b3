-- What contracts see of the nodes of a net of operations.
use Rattle.std.specs.Prelude.{ℕ}
use Rattle.op_board.specs.OperationNets.{OperationNet}
use Rattle.operation_tables.specs.declared.graph.OpGraph.{OpGraph}
use Rattle.operation_tables.specs.PlanView.{operations_in}

module _ {W : ℕ} where
  -- the net whose nodes they are
  abbrev pub operations_of : OpGraph W → OperationNet
  operations_of graph = operations_in graph.plan
