-- Which edges token lines stand on, and which are left for nodes.
use Rattle.std.specs.Prelude.{◌≡◌, ◌<◌, ℕ, List, Option, Some, slice_get}
use Rattle.closed_walks.specs.Graph.{edge_count}
use Rattle.f77_tree.specs.CanRun.{CanRun}
use Rattle.net_board.specs.SoundNets.{HasSizesOf}
use Rattle.net_board.specs.Nodes.{NetOf, graph_in}
use Rattle.net_board.specs.Tokens.{Tokens, joined}

-- the edge at a place of a list
abbrev pub edge_at : List (Option ℕ) → ℕ → Option ℕ
edge_at edges k = joined (slice_get edges k)

-- the edges in the list are those of the net
abbrev pub AreEdges : NetOf → List (Option ℕ) → Type 0
AreEdges net edges = (k edge : ℕ) → edge_at edges k ≡ Some edge → edge < edge_count (graph_in net)

-- what a firing relies on
pub record IsReadable (net : NetOf) (m : Tokens) : Type 0 where
  pub can_run : CanRun net.program
  pub sizes : HasSizesOf net.program m.memory
  pub stand : AreEdges net m.lines
  pub lie : AreEdges net m.edges
