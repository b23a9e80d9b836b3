-- The text of the wires of a dataflow graph, and of its hops past quiet regions, for Graphviz.
use Rattle.std.specs.Prelude.{ℕ, List, [], ◌∷◌, ◌++◌, ◌==◌, Bool, true, false, if◌then◌else◌, codes, flat_map, length, map, slice_get, Option, Some, None}
use Rattle.std.specs.Fmt.{decimal}
use Rattle.std.specs.List.{list_any}
use Rattle.printed_graphs.specs.Nodes.{piece_of}
use Rattle.printed_graphs.specs.declared.dataflow.Bypass.{Bypass}
use Rattle.printed_graphs.specs.declared.dataflow.Node.{Node}
use Rattle.printed_graphs.specs.declared.dataflow.Node.TheVariants as node
use Rattle.printed_graphs.specs.declared.dataflow.PrintedGraph.{PrintedGraph}
use Rattle.printed_graphs.specs.declared.dataflow.Wires.{Wires}
use Rattle.printed_graphs.specs.declared.flow.Edge.{Edge}
use Rattle.printed_graphs.specs.declared.flow.Piece.{Piece}
use Rattle.printed_graphs.specs.declared.flow.PieceKind.{PieceKind}
use Rattle.printed_graphs.specs.declared.flow.PieceKind.TheVariants as kind
use Rattle.printed_graphs.specs.declared.flow.PrintedFlow.{PrintedFlow}
use Rattle.view_output.specs.ShownLines.{is_shown}
use Rattle.view_output.specs.declared.shown_lines.Lines.{Lines}
use Rattle.graph_pictures.specs.FlowDot.{colour_text}
use Rattle.graph_pictures.specs.Numbers.{if_there, numbered, places_of}

-- how a token line looks; it is dashed where it hops past a region
abbrev pub dashes_dot : (is_hop : Bool) → List ℕ
dashes_dot true = codes ", style=dashed"
dashes_dot false = []

unfoldable pub paint_dot : (line : ℕ) → List ℕ
paint_dot line = codes " [color=\"" ++ colour_text line ++ codes "\", label=\"" ++ decimal line ++ codes "\", fontsize=8"

unfoldable pub looks_dot : (line : ℕ) → (is_hop : Bool) → List ℕ
looks_dot line is_hop = paint_dot line ++ dashes_dot is_hop ++ codes "];\n"

-- ---- the nodes at which a line comes to a piece and leaves it

-- a node takes the line
abbrev pub takes : (line : ℕ) → Option Node → Bool
takes line None = false
takes line (Some (node.Operation piece number work lines)) = list_any (λ l. l == line) lines.items
takes line (Some (node.Switch piece l)) = l == line
takes line (Some (node.Merge piece l)) = l == line

-- the first of these nodes that takes the line, and the last one, or `found`
abbrev pub first_taking : List Node → (line : ℕ) → List ℕ → Option ℕ
first_taking nodes line [] = None
first_taking nodes line (k ∷ ks) = if takes line (slice_get nodes k) then Some k else first_taking nodes line ks

abbrev pub last_taking : List Node → (line : ℕ) → (found : Option ℕ) → List ℕ → Option ℕ
last_taking nodes line found [] = found
last_taking nodes line found (k ∷ ks) = last_taking nodes line (if takes line (slice_get nodes k) then Some k else found) ks

-- ---- ways

abbrev pub is_start : PieceKind → Bool
is_start kind.Start = true
is_start _ = false

abbrev pub is_begin : Option Piece → Bool
is_begin None = false
is_begin (Some piece) = is_start piece.kind

-- where the line leaves a piece: at START, or at the last node there that takes it
abbrev pub from_dot : (start : Bool) → (last : Option ℕ) → Option (List ℕ)
from_dot true last = Some (codes "  start")
from_dot false None = None
from_dot false (Some k) = Some (codes "  n" ++ decimal k)

-- where it comes to over an edge: the first node there that takes it, or END, to which edge 0 leads back
unfoldable pub to_dot : (edge : ℕ) → (first : Option ℕ) → List ℕ
to_dot edge None = codes " -> end"
to_dot edge (Some k) = if edge == 0 then codes " -> end" else codes " -> n" ++ decimal k

abbrev pub led_dot : (line : ℕ) → (is_hop : Bool) → (to from : List ℕ) → List ℕ
led_dot line is_hop to from = from ++ to ++ looks_dot line is_hop

-- a graph, and the nodes of each piece
pub record Net : Type 0 where
  pub graph : PrintedGraph
  pub flow : PrintedFlow
  pub nodes_in : (piece : ℕ) → List ℕ

-- where a line comes to a piece, and where it leaves it
abbrev pub first_in : Net → (line piece : ℕ) → Option ℕ
first_in n line piece = first_taking n.graph.nodes.items line (n.nodes_in piece)

abbrev pub last_in : Net → (line piece : ℕ) → Option ℕ
last_in n line piece = last_taking n.graph.nodes.items line None (n.nodes_in piece)

-- the way from where one edge begins to where another one ends, if the line comes from a node there
abbrev pub between_dot : Net → (line next : ℕ) → (is_hop : Bool) → (leaving coming : Option Edge) → List ℕ
between_dot n line next is_hop (Some l) (Some c) =
    if_there (led_dot line is_hop (to_dot next (first_in n line c.to))) (from_dot (is_begin (slice_get n.flow.pieces.items l.from)) (last_in n line l.from))
between_dot n line next is_hop _ _ = []

abbrev pub way_dot : Net → (line : ℕ) → (is_hop : Bool) → (edge next : ℕ) → List ℕ
way_dot n line is_hop edge next =
    if edge == 0 then [] else between_dot n line next is_hop (slice_get n.flow.edges.items edge) (slice_get n.flow.edges.items next)

-- the wires and the hops of a line
abbrev pub wire_dot : Net → (line edge : ℕ) → List ℕ
wire_dot n line edge = way_dot n line false edge edge

abbrev pub hop_dot : Net → (line : ℕ) → Bypass → List ℕ
hop_dot n line hop = if hop.line == line then way_dot n line true hop.edge hop.next else []

abbrev pub ways_dot : Net → (line : ℕ) → (edges : List ℕ) → List ℕ
ways_dot n line edges = flat_map (wire_dot n line) edges ++ flat_map (hop_dot n line) n.graph.bypasses.items

abbrev pub line_dot : Net → Lines → (line : ℕ) → Wires → List ℕ
line_dot n lines line wires = if is_shown lines line then ways_dot n line wires.edges.items else []

unfoldable pub wires_dot : Net → Lines → List ℕ
wires_dot n lines =
    codes "  start [label=\"START\"]; end [label=\"END\"];\n"
    ++ numbered (λ line. if_there (line_dot n lines line) (slice_get n.graph.wires.items line)) (length n.graph.wires.items)

abbrev pub net_of : PrintedGraph → PrintedFlow → Net
net_of graph flow = record {
  graph = graph;
  flow = flow;
  nodes_in = λ piece. places_of (length flow.pieces.items) 0 piece (map piece_of graph.nodes.items);
}
