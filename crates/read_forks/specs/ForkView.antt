-- What contracts see of a net in which the loads of a group fire in any order.
use Rattle.std.specs.Prelude.{◌≡◌, ℕ, true, Option}
use Rattle.firing.specs.Marks.{AreMarks}
use Rattle.net_board.specs.declared.control.Control.{Control}
use Rattle.op_board.specs.OperationNets.{OperationNet}
use Rattle.op_net.specs.ApartLoads.{flags_of}
use Rattle.op_net.specs.NetView as operations
use Rattle.fork_board.specs.ForkTokens.{ForkTokens, fork_moves}
use Rattle.read_forks.specs.KeptLoads.{opened_of}
use Rattle.read_forks.specs.OpenGroups.{marking_by}
use Rattle.read_forks.specs.declared.fork_net.ForkNet.{ForkNet}

module _ {W : ℕ} where
  -- what firings never change
  abbrev pub net_of : ForkNet W → OperationNet
  net_of s = operations.net_of s.net

  abbrev pub marking_of : ForkNet W → ForkTokens
  marking_of s = marking_by (net_of s) (operations.marking_of s.net) (opened_of (net_of s) s.waiting)

  -- the ready nodes are marked
  pub record KeepsSet (s : ForkNet W) : Type 0 where
    pub kept : s.net.places.counted ≡ true
    pub marks : AreMarks (fork_moves (net_of s)).nodes ((fork_moves (net_of s)).ready (marking_of s)) (flags_of s.net)

  abbrev pub place_of : ForkNet W → Option Control
  place_of s = s.net.control
