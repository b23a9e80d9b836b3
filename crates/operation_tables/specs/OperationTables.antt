-- What the tables of a net of operations hold.
use Rattle.std.specs.Prelude.{◌≡◌, ◌≢◌, ◌<◌, ◌≤◌, ◌+◌, ◌^◌, ℕ, suc, length, map, Option, None, Some, slice_index}
use Rattle.std.specs.List.{range_with_len}
use Rattle.firing.specs.declared.system.NodeName.{NodeName}
use Rattle.firing.specs.declared.system.NodeName.TheVariants.{Op}
use Rattle.net_board.specs.Nodes.{graph_in}
use Rattle.op_board.specs.OperationNets.{OperationNet, all_operation_nodes, first_operation, operation_at, operation_count, operation_node}
use Rattle.operation_tables.specs.declared.rows.Row.{Row}
use Rattle.operation_tables.specs.declared.tables.OperationTables.{OperationTables}
use Rattle.operation_tables.specs.OperationRows.{IsRow}
use Rattle.operation_tables.specs.PieceTables.{AreFirstRows, rows_before}

-- the row of a node, if it is an operation
abbrev pub RowOfNode : OperationNet → NodeName → Option Row → Type 0
RowOfNode x (Op piece i) (Some row) = ∥ IsRow x piece i row ∥₁
RowOfNode x (Op piece i) None = ⊥
RowOfNode x _ found = found ≡ None

-- the tables tell the nodes of the net, and of each operation what its firing looks up
pub record AreOperationTables (x : OperationNet) (t : OperationTables) : Type 0 where
  pub names : t.names ≡ all_operation_nodes x
  pub few : length (all_operation_nodes x) < 2 ^ 32
  -- the last one is the number of all nodes
  pub firsts : t.firsts.items ≡ map (first_operation x) (range_with_len 0 (suc (graph_in x.net).nodes))
  pub rows : AreFirstRows x (graph_in x.net).nodes t.rows.items t.starts.items t.entries.items
  pub records : length t.records.items ≡ length (all_operation_nodes x)
  -- the row of an operation has the number that stands there, which is no row's for other nodes
  pub operations : (k piece i : ℕ) → k < length (all_operation_nodes x) → operation_node x k ≡ Op piece i → slice_index t.records.items k ≡ rows_before x piece + i
  pub others : (k : ℕ) → k < length (all_operation_nodes x) → ((piece i : ℕ) → operation_node x k ≢ Op piece i) → length t.rows.items ≤ slice_index t.records.items k
  -- there are no more operations before one in its piece together with its operands
  pub most : (piece i : ℕ) → i < operation_count x piece → i + length (operation_at x piece i).operands ≤ t.most
  pub fits : t.most < 2 ^ 32
