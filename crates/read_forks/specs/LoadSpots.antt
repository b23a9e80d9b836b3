-- What code sees of the loads before which lines stand.
use Rattle.std.specs.Prelude.{◌≡◌, ℕ, true, false, Option, Some, None}
use Rattle.firing.specs.declared.system.NodeName.{NodeName}
use Rattle.firing.specs.declared.system.NodeName.TheVariants.{Op}
use Rattle.op_board.specs.OperationNets.{OperationNet, operation_at}
use Rattle.fork_board.specs.ForkTokens.{is_load_node}
use Rattle.fork_board.specs.LoadGroups as groups

-- the node is the load with this number of this piece, or no load
abbrev pub IsLoadAt : OperationNet → NodeName → Option (ℕ × ℕ) → Type 0
IsLoadAt x name None = is_load_node x name ≡ false
IsLoadAt x name (Some load) = (name ≡ Op load.0 load.1) × (groups.is_load (operation_at x load.0 load.1).work ≡ true)
