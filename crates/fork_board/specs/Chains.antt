-- That groups of loads are chains.
use Rattle.std.specs.Prelude.{◌≡◌, ◌<◌, ℕ, false, length, Some, None}
use Rattle.closed_walks.specs.Graph.{edge_count}
use Rattle.net_board.specs.Nodes.{graph_in}
use Rattle.op_board.specs.OperationNets.{OperationNet}
use Rattle.fork_board.specs.LoadGroups.{Site, Spot, behind_group, is_among, load_at, loads_within, spot_behind}

-- Where so many loads stand one after another along the line, the one behind them is none of them.
abbrev pub ComeOnce : OperationNet → Type 0
ComeOnce x =
    (line count : ℕ) (s : Spot) (load : Site) → line < x.net.routing.lines → s.edge < edge_count (graph_in x.net) → length (loads_within count x line s) ≡ count → load_at x line (spot_behind count x line s) ≡ Some load → is_among (loads_within count x line s) load.piece load.number ≡ false

-- Behind a group stands another operation than a load, or none: no load more belongs to it.
abbrev pub GroupsEnd : OperationNet → Type 0
GroupsEnd x = (line : ℕ) (s : Spot) → line < x.net.routing.lines → s.edge < edge_count (graph_in x.net) → load_at x line (behind_group x line s) ≡ None
