-- What is told of the nodes of a net of operations.
use Rattle.std.specs.Prelude.{◌≡◌, ◌<◌, ◌≤◌, ◌+◌, ◌^◌, ℕ, suc, length, map}
use Rattle.std.specs.List.{range_with_len}
use Rattle.net_board.specs.Nodes.{graph_in}
use Rattle.op_board.specs.OperationNets.{OperationNet, all_operation_nodes, first_operation, operation_at, operation_count}
use Rattle.operation_tables.specs.declared.tables.NodeTables.{NodeTables}

-- the tables tell the nodes of the net
pub record AreNodeTables (x : OperationNet) (t : NodeTables) : Type 0 where
  pub names : t.names ≡ all_operation_nodes x
  pub few : length (all_operation_nodes x) < 2 ^ 32
  -- the last one is the number of all nodes
  pub firsts : t.firsts.items ≡ map (first_operation x) (range_with_len 0 (suc (graph_in x.net).nodes))
  -- there are no more operations before one in its piece together with its operands
  pub most : (piece i : ℕ) → i < operation_count x piece → i + length (operation_at x piece i).operands ≤ t.most
  pub fits : t.most < 2 ^ 32
