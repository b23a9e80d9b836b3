-- Where token lines go.
use Rattle.std.specs.Prelude.{ℕ, suc, Bool, false, ◌==◌, ◌&&◌, if◌then◌else◌, List, [], ◌∷◌, ◌++◌, Option, Some, None, slice_get}
use Rattle.printed_graphs.specs.Nodes.{piece_of}
use Rattle.printed_graphs.specs.declared.dataflow.Bypass.{Bypass}
use Rattle.printed_graphs.specs.declared.dataflow.Node.{Node}
use Rattle.printed_graphs.specs.declared.dataflow.PrintedGraph.{PrintedGraph}
use Rattle.printed_graphs.specs.declared.dataflow.Wires.{Wires}
use Rattle.printed_graphs.specs.declared.flow.Edge.{Edge}
use Rattle.printed_graphs.specs.declared.flow.PrintedFlow.{PrintedFlow}
use Rattle.graph_dependences.specs.Nodes.{is_load, needs}
use Rattle.graph_dependences.specs.declared.ways.Carrier.{Carrier}
use Rattle.graph_dependences.specs.declared.ways.Carrier.TheVariants as carrier
use Rattle.graph_dependences.specs.declared.ways.Hop.{Hop}
use Rattle.graph_dependences.specs.declared.ways.Way.{Way}

-- the first of these nodes, numbered from k on, that needs the line, before one of another piece
abbrev pub next_stop : (line piece : ℕ) → (k : ℕ) → List Node → Option ℕ
next_stop line piece k [] = None
next_stop line piece k (n ∷ ns) = if piece_of n == piece then (if needs line n then Some k else next_stop line piece (suc k) ns) else None

-- the first of these nodes, numbered from k on, that stands in the piece and needs the line
abbrev pub first_stop : (line piece : ℕ) → (k : ℕ) → List Node → Option ℕ
first_stop line piece k [] = None
first_stop line piece k (n ∷ ns) = if (piece_of n == piece) && needs line n then Some k else first_stop line piece (suc k) ns

-- the node is a LOAD that needs one line alone
abbrev pub is_load_at : Option Node → Bool
is_load_at None = false
is_load_at (Some n) = is_load n

abbrev pub carrier_between : PrintedGraph → (from to : ℕ) → Carrier
carrier_between g from to = if is_load_at (slice_get g.nodes.items from) && is_load_at (slice_get g.nodes.items to) then carrier.Loads else carrier.Line

-- a way of a line
abbrev pub line_way : PrintedGraph → (from to : ℕ) → Option Hop → Way
line_way g from to hop = record { from = from; to = to; hop = hop; carrier = carrier_between g from to }

-- a way from piece to piece, over this edge at last
abbrev pub hop_to : PrintedGraph → (from : ℕ) → Edge → Option ℕ → List Way
hop_to g from next None = []
hop_to g from next (Some to) = line_way g from to (Some (record { begins = next.from; ends = next.to })) ∷ []

-- the way from a node of a piece over the beginning of one edge and the end of another
abbrev pub hop_between : PrintedGraph → (line from piece : ℕ) → Option Edge → Option Edge → List Way
hop_between g line from piece None next = []
hop_between g line from piece (Some edge) None = []
hop_between g line from piece (Some edge) (Some next) = if edge.from == piece then hop_to g from next (first_stop line next.to 0 g.nodes.items) else []

abbrev pub hop : PrintedGraph → PrintedFlow → (line from piece edge next : ℕ) → List Way
hop g flow line from piece edge next = hop_between g line from piece (slice_get flow.edges.items edge) (slice_get flow.edges.items next)

abbrev pub wire_hops : PrintedGraph → PrintedFlow → (line from piece : ℕ) → List ℕ → List Way
wire_hops g flow line from piece [] = []
wire_hops g flow line from piece (e ∷ es) = hop g flow line from piece e e ++ wire_hops g flow line from piece es

abbrev pub bypass_hops : PrintedGraph → PrintedFlow → (line from piece : ℕ) → List Bypass → List Way
bypass_hops g flow line from piece [] = []
bypass_hops g flow line from piece (b ∷ bs) = (if b.line == line then hop g flow line from piece b.edge b.next else []) ++ bypass_hops g flow line from piece bs

abbrev pub edges_of : Option Wires → List ℕ
edges_of None = []
edges_of (Some wires) = wires.edges.items

-- the ways from a node, after which this one is the next in its piece that needs the line, if any
abbrev pub ways_to : PrintedGraph → PrintedFlow → (line from piece : ℕ) → Option ℕ → List Way
ways_to g flow line from piece (Some next) = line_way g from next None ∷ []
ways_to g flow line from piece None = wire_hops g flow line from piece (edges_of (slice_get g.wires.items line)) ++ bypass_hops g flow line from piece g.bypasses.items

-- the ways from the node k, after which these stand
abbrev pub ways_from : PrintedGraph → PrintedFlow → (line k : ℕ) → Node → List Node → List Way
ways_from g flow line k n ns = if needs line n then ways_to g flow line k (piece_of n) (next_stop line (piece_of n) (suc k) ns) else []

abbrev pub ways_on : PrintedGraph → PrintedFlow → (line k : ℕ) → List Node → List Way
ways_on g flow line k [] = []
ways_on g flow line k (n ∷ ns) = ways_from g flow line k n ns ++ ways_on g flow line (suc k) ns

-- A line leads from each node that needs it to the next one of the piece that does, or else over each edge that leaves the piece and is a wire
-- of it or leads past a region, to the first such node of the piece behind.
abbrev pub ways_of : PrintedGraph → PrintedFlow → (line : ℕ) → List Way
ways_of g flow line = ways_on g flow line 0 g.nodes.items
