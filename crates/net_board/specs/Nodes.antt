-- The net of a program: what firings never change, and its nodes.
use Rattle.std.specs.Prelude.{ℕ, suc, ◌&&◌, ◌==◌, Bool, true, false, not, ℤ, List, [], ◌∷◌, length, map, filter, flat_map, Option, Some, None, slice_get}
use Rattle.std.specs.List.{list_any, range_with_len}
use Rattle.closed_walks.specs.Graph.{Graph, edges_at, to}
use Rattle.f77_tree.specs.declared.programs.Program.{Program}
use Rattle.cfg_build.specs.declared.pieces.PieceKind.{PieceKind}
use Rattle.cfg_build.specs.declared.pieces.PieceKind.TheVariants as kind
use Rattle.cfg_build.specs.Flow.{flow}
use Rattle.cfg_build.specs.Shape.{kind_at}
use Rattle.dep_routing.specs.Routing.{Routing, wire_at}
use Rattle.firing.specs.declared.system.NodeName.{NodeName}
use Rattle.firing.specs.declared.system.NodeName.TheVariants.{Act, Merge, Switch}

-- a program and its data, and of the lines of tokens which pieces touch them, and where they are led
pub record NetOf : Type 0 where
  pub program : Program
  pub input : List ℤ
  pub touches : (piece line : ℕ) → Bool
  pub routing : Routing

-- the flow graph, whose nodes are the pieces
abbrev pub graph_in : NetOf → Graph
graph_in net = (flow net.program.execs).graph

abbrev pub kind_in : NetOf → ℕ → PieceKind
kind_in net piece = kind_at (flow net.program.execs) piece

-- ---- lines

abbrev pub all_lines : NetOf → List ℕ
all_lines net = range_with_len 0 net.routing.lines

-- the edge leads to the node, and is a wire of the line
abbrev pub comes_along : Graph → Routing → (node line edge : ℕ) → Bool
comes_along g r node line edge = (to g edge == node) && wire_at r line edge

-- The piece lies in no region that is quiet for the line: an edge to it is a wire of the line, as then each one is.
abbrev pub is_free : NetOf → (piece line : ℕ) → Bool
is_free net piece line = list_any (comes_along (graph_in net) net.routing piece line) (edges_at (graph_in net) piece)

-- the lines that a piece touches
abbrev pub touched : NetOf → ℕ → List ℕ
touched net piece = filter (net.touches piece) (all_lines net)

-- the lines that are led to a piece
abbrev pub led_to : NetOf → ℕ → List ℕ
led_to net piece = filter (is_free net piece) (all_lines net)

-- the lines that are led to a piece, and that it doesn't touch
abbrev pub passing : NetOf → ℕ → List ℕ
passing net piece = filter (λ line. is_free net piece line && not (net.touches piece line)) (all_lines net)

-- ---- nodes

-- pieces that act, branch or hold
abbrev pub is_acting : PieceKind → Bool
is_acting kind.Act = true
is_acting kind.Branch = true
is_acting kind.Hold = true
is_acting _ = false

-- A piece that acts, branches or holds has a node for that, which the lines that it touches go through. Where edges part, each
-- other line has a switch; where they come together, each line has a merge. An end to which one edge leads has none, since it
-- is a region in which nothing is touched.
abbrev pub nodes_by : NetOf → ℕ → PieceKind → List NodeName
nodes_by net piece kind.Act = Act piece ∷ []
nodes_by net piece kind.Branch = Act piece ∷ map (Switch piece) (passing net piece)
nodes_by net piece kind.Hold = Act piece ∷ map (Switch piece) (passing net piece)
nodes_by net piece kind.Join = map (Merge piece) (led_to net piece)
nodes_by net piece kind.End = map (Merge piece) (led_to net piece)
nodes_by net piece _ = []

abbrev pub nodes_at : NetOf → ℕ → List NodeName
nodes_at net piece = nodes_by net piece (kind_in net piece)

abbrev pub node_count : NetOf → ℕ → ℕ
node_count net piece = length (nodes_at net piece)

-- the nodes of the pieces below this one
abbrev pub nodes_below : NetOf → ℕ → List NodeName
nodes_below net piece = flat_map (nodes_at net) (range_with_len 0 piece)

-- all nodes, in the order of their numbers: by pieces, and at each by lines
abbrev pub nodes_of : NetOf → List NodeName
nodes_of net = nodes_below net (graph_in net).nodes

-- the number of the first node of a piece
abbrev pub first_node : NetOf → ℕ → ℕ
first_node net piece = length (nodes_below net piece)

abbrev pub name_in : Option NodeName → NodeName
name_in None = Act 0
name_in (Some name) = name

abbrev pub node_at : NetOf → ℕ → NodeName
node_at net k = name_in (slice_get (nodes_of net) k)

-- ---- switches

abbrev pub switch_lines : NetOf → ℕ → PieceKind → List ℕ
switch_lines net piece kind.Branch = passing net piece
switch_lines net piece kind.Hold = passing net piece
switch_lines net piece _ = []

-- the numbers of the switches of a piece, which come after its first node
abbrev pub switches : NetOf → ℕ → List ℕ
switches net piece = range_with_len (suc (first_node net piece)) (length (switch_lines net piece (kind_in net piece)))
