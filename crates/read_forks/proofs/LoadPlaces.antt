-- Each load that needs a line stands somewhere along it, and links tell whether it is one of a group.
use Rattle.std.proofs.Common.{◌<◌, ℕ, suc, Bool, true, false, if◌then◌else◌, []}
use Rattle.closed_walks.specs.Graph.{edge_count}
use Rattle.cfg_build.specs.Passes.{out}
use Rattle.dep_routing.specs.Routing.{next_at}
use Rattle.net_board.specs.Nodes.{graph_in}
use Rattle.net_board.specs.ProgramFacts.{ProgramFacts}
use Rattle.net_board.proofs.FiringLaws.{led_below, out_below, some_edge}
use Rattle.op_board.specs.OperationNets.{OperationNet}
use Rattle.op_board.specs.SoundOperationNets.{IsOperationNet}
use Rattle.fork_board.specs.LoadGroups.{Spot, is_last_there, piece_at, spot, spot_after}

-- ---- one edge leads to a piece

module _ (x : OperationNet) (line : ℕ) where
  pub after_exists : ProgramFacts → IsOperationNet x → line < x.net.routing.lines → (s : Spot) → s.edge < edge_count (graph_in x.net) → (spot_after x line s).edge < edge_count (graph_in x.net)
  after_exists ground n below s exists = by (is_last_there x line s)
    where
      by : (b : Bool) → (if b then spot (next_at x.net.routing line (out (graph_in x.net) (piece_at x s) 0)) 0 else spot s.edge (suc s.passed)).edge < edge_count (graph_in x.net)
      by true = led_below ground x.net n.is_net (out (graph_in x.net) (piece_at x s) 0) line (out_below (graph_in x.net) (piece_at x s) 0 (some_edge ground x.net n.is_net)) below
      by false = exists
