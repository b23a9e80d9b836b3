-- Which nodes are loads, as flags.
use Rattle.std.specs.Prelude.{◌≡◌, ◌<◌, ℕ, Bool, List, length}
use Rattle.firing.specs.ReadySet.{has}
use Rattle.op_board.specs.OperationNets.{OperationNet, all_operation_nodes, operation_node}
use Rattle.fork_board.specs.ForkTokens.{is_load_node}

-- a flag for each node, which tells whether it is a load
abbrev pub AreLoadFlags : OperationNet → List Bool → Type 0
AreLoadFlags x flags = (k : ℕ) → k < length (all_operation_nodes x) → has flags k ≡ is_load_node x (operation_node x k)
