-- A net of operations that leaves its loads to another game.
use Rattle.std.specs.Prelude.{◌≡◌, ◌<◌, ℕ}
use Rattle.op_board.specs.OperationNets.{operation_node}
use Rattle.op_net.specs.ApartLoads.{is_apart}
use Rattle.op_net.specs.NetView.{net_of}
use Rattle.operation_tables.specs.Waits.{node_total}
use Rattle.op_net.specs.declared.net.OpNet.{OpNet}
use Rattle.fork_board.specs.ForkTokens.{is_load_node}

module _ {W : ℕ} where
  -- the nodes that the net leaves to another game are the loads
  abbrev pub AreLoadsApart : OpNet W → Type 0
  AreLoadsApart net = (k : ℕ) → k < node_total (net_of net) → is_apart net k ≡ is_load_node (net_of net) (operation_node (net_of net) k)
