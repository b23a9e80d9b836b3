-- Loads along lines, by the operations that need these.
use Rattle.std.specs.Prelude.{◌≡◌, ◌<◌, ℕ, Option, Some}
use Rattle.closed_walks.specs.Graph.{edge_count}
use Rattle.net_board.specs.Nodes.{graph_in}
use Rattle.op_board.specs.OperationNets.{OperationNet}
use Rattle.fork_board.specs.LoadGroups as groups
use Rattle.fork_board.specs.LoadGroups.{Spot, load_at, spot_after}

-- after the load the line stands before this one, or before none
abbrev pub Follows : OperationNet → (line : ℕ) → groups.Site → Option groups.Site → Type 0
Follows x line load next = (s : Spot) → s.edge < edge_count (graph_in x.net) → load_at x line s ≡ Some load → next ≡ load_at x line (spot_after x line s)
