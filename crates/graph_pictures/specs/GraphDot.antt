-- The text of a dataflow graph for Graphviz.
use Rattle.std.specs.Prelude.{ℕ, zero, suc, List, [], ◌++◌, ◌==◌, Bool, false, if◌then◌else◌, codes, flat_map, length, slice_get, Option, Some, None}
use Rattle.std.specs.Fmt.{decimal}
use Rattle.std.specs.List.{list_any}
use Rattle.printed_graphs.specs.Names.{work_text}
use Rattle.printed_graphs.specs.Nodes.{piece_of}
use Rattle.printed_graphs.specs.declared.dataflow.Node.{Node}
use Rattle.printed_graphs.specs.declared.dataflow.Node.TheVariants as node
use Rattle.printed_graphs.specs.declared.dataflow.Operand.{Operand}
use Rattle.printed_graphs.specs.declared.dataflow.Operand.TheVariants as operand
use Rattle.printed_graphs.specs.declared.dataflow.PrintedGraph.{PrintedGraph}
use Rattle.printed_graphs.specs.declared.dataflow.Value.{Value}
use Rattle.printed_graphs.specs.declared.flow.PrintedFlow.{PrintedFlow}
use Rattle.view_output.specs.ShownLines.{is_shown}
use Rattle.view_output.specs.declared.shown_lines.Lines.{Lines}
use Rattle.graph_pictures.specs.Numbers.{if_there, numbered}
use Rattle.graph_pictures.specs.WiresDot.{looks_dot, net_of, wires_dot}

-- ---- nodes

unfoldable pub word_text : Node → List ℕ
word_text (node.Operation piece number work lines) = work_text work ++ codes "\""
word_text (node.Switch piece line) = codes "SWITCH " ++ decimal line ++ codes "\", shape=diamond"
word_text (node.Merge piece line) = codes "MERGE " ++ decimal line ++ codes "\", shape=ellipse"

unfoldable pub node_dot : (k : ℕ) → Node → List ℕ
node_dot k n = codes "  n" ++ decimal k ++ codes " [label=\"" ++ decimal k ++ codes " " ++ word_text n ++ codes "];\n"

-- the beginning of a box around the nodes of a piece
abbrev pub begin_dot : (piece : ℕ) → List ℕ
begin_dot piece =
    codes "  subgraph cluster_" ++ decimal piece ++ codes " {\n  label=\"piece " ++ decimal piece ++ codes "\"; color=\"#808080\"; fontname=\"sans-serif\"; fontsize=9;\n"

-- a node is of this piece
abbrev pub is_of : (piece : ℕ) → Option Node → Bool
is_of piece None = false
is_of piece (Some n) = piece_of n == piece

-- the node before one
abbrev pub node_before : List Node → (k : ℕ) → Option Node
node_before nodes zero = None
node_before nodes (suc k) = slice_get nodes k

-- nodes of one piece that stand side by side are in a box: it begins before the first of them, and ends behind the last one
unfoldable pub open_dot : List Node → (k piece : ℕ) → List ℕ
open_dot nodes k piece = if is_of piece (node_before nodes k) then [] else begin_dot piece

unfoldable pub close_dot : List Node → (k piece : ℕ) → List ℕ
close_dot nodes k piece = if is_of piece (slice_get nodes (suc k)) then [] else codes "  }\n"

unfoldable pub boxed_dot : List Node → (k : ℕ) → Node → List ℕ
boxed_dot nodes k n = open_dot nodes k (piece_of n) ++ node_dot k n ++ close_dot nodes k (piece_of n)

-- ---- values

-- the value that one node gives to another
unfoldable pub given_dot : (giver node : ℕ) → List ℕ
given_dot giver k = codes "  n" ++ decimal giver ++ codes " -> n" ++ decimal k ++ codes " [color=\"#404040\", penwidth=0.5, arrowsize=0.5];\n"

abbrev pub operand_dot : (node : ℕ) → Operand → List ℕ
operand_dot k (operand.From giver) = given_dot giver k
operand_dot k (operand.Known z) = []

abbrev pub value_dot : Value → List ℕ
value_dot v = flat_map (operand_dot v.node) v.operands.items

-- ---- token lines within a piece

abbrev pub is_operation_on : (line : ℕ) → Node → Bool
is_operation_on line (node.Operation piece number work lines) = list_any (λ l. l == line) lines.items
is_operation_on line (node.Switch piece l) = false
is_operation_on line (node.Merge piece l) = false

-- the last operation before node k that takes the line, among the nodes that stand beside it in the piece
abbrev pub taken_by : (piece line k : ℕ) → Option Node → (before : Option ℕ) → Option ℕ
taken_by piece line k None before = None
taken_by piece line k (Some n) before = if piece_of n == piece then (if is_operation_on line n then Some k else before) else None

abbrev pub taken_before : List Node → (piece line k : ℕ) → Option ℕ
taken_before nodes piece line zero = None
taken_before nodes piece line (suc k) = taken_by piece line k (slice_get nodes k) (taken_before nodes piece line k)

-- the token line that goes from one operation of a piece to the next one that needs it
abbrev pub pass_dot : (k line : ℕ) → (before : ℕ) → List ℕ
pass_dot k line before = codes "  n" ++ decimal before ++ codes " -> n" ++ decimal k ++ looks_dot line false

abbrev pub passes_to : List Node → Lines → (k piece line : ℕ) → List ℕ
passes_to nodes lines k piece line = if is_shown lines line then if_there (pass_dot k line) (taken_before nodes piece line k) else []

abbrev pub passes_dot : List Node → Lines → (k : ℕ) → Node → List ℕ
passes_dot nodes lines k (node.Operation piece number work needed) = flat_map (passes_to nodes lines k piece) needed.items
passes_dot nodes lines k (node.Switch piece line) = []
passes_dot nodes lines k (node.Merge piece line) = []

-- ---- the whole

-- the token lines within pieces, and between them
unfoldable pub rest_dot : PrintedGraph → Lines → (wires : List ℕ) → List ℕ
rest_dot graph lines wires = numbered (λ k. if_there (passes_dot graph.nodes.items lines k) (slice_get graph.nodes.items k)) (length graph.nodes.items) ++ wires

-- all that joins nodes
unfoldable pub edges_dot : PrintedGraph → Lines → (wires : List ℕ) → List ℕ
edges_dot graph lines wires = numbered (λ k. if_there value_dot (slice_get graph.values.items k)) (length graph.values.items) ++ rest_dot graph lines wires

unfoldable pub body_dot : PrintedGraph → Lines → (wires : List ℕ) → List ℕ
body_dot graph lines wires = numbered (λ k. if_there (boxed_dot graph.nodes.items k) (slice_get graph.nodes.items k)) (length graph.nodes.items) ++ edges_dot graph lines wires

unfoldable pub opening_dot : List ℕ
opening_dot = codes "digraph dataflow {\n  newrank=true;\n  node [shape=box, fontname=\"sans-serif\", fontsize=11];\n"

unfoldable pub dataflow_dot : PrintedGraph → Lines → (wires : List ℕ) → List ℕ
dataflow_dot graph lines wires = opening_dot ++ body_dot graph lines wires ++ codes "}\n"

abbrev pub wires_of : PrintedGraph → Lines → PrintedFlow → List ℕ
wires_of graph lines flow = wires_dot (net_of graph flow) lines

-- the dataflow graph, with the wires between its pieces where the flow graph is given
abbrev pub graph_dot : PrintedGraph → Option PrintedFlow → Lines → List ℕ
graph_dot graph flow lines = dataflow_dot graph lines (if_there (wires_of graph lines) flow)
