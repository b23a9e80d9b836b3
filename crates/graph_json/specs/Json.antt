-- The text of a value in JSON. docs/view.schema.json is its schema.
use Rattle.std.specs.Prelude.{ℕ, List, [], ◌∷◌, ◌++◌, Option, Some, None, Vec, codes, flat_map, option_and_then, option_map, slice_get}
use Rattle.std.specs.Fmt.{decimal, signed_decimal}
use Rattle.std.specs.declared.alloc.Global.{Global}
use Rattle.printed_graphs.specs.declared.dataflow.Bypass.{Bypass}
use Rattle.printed_graphs.specs.declared.dataflow.Node.{Node}
use Rattle.printed_graphs.specs.declared.dataflow.Node.TheVariants as node
use Rattle.printed_graphs.specs.declared.dataflow.Operand.{Operand}
use Rattle.printed_graphs.specs.declared.dataflow.Operand.TheVariants as operand
use Rattle.printed_graphs.specs.declared.dataflow.PrintedGraph.{PrintedGraph}
use Rattle.printed_graphs.specs.declared.dataflow.TokenLine.{TokenLine}
use Rattle.printed_graphs.specs.declared.dataflow.TokenLine.TheVariants as line
use Rattle.printed_graphs.specs.declared.dataflow.Value.{Value}
use Rattle.printed_graphs.specs.declared.dataflow.Wires.{Wires}
use Rattle.printed_graphs.specs.declared.flow.Edge.{Edge}
use Rattle.printed_graphs.specs.declared.flow.Piece.{Piece}
use Rattle.printed_graphs.specs.declared.flow.PrintedFlow.{PrintedFlow}
use Rattle.printed_graphs.specs.declared.flow.Region.{Region}
use Rattle.printed_graphs.specs.declared.printed.Printed.{Printed}
use Rattle.printed_graphs.specs.declared.trace.Firing.{Firing}
use Rattle.printed_graphs.specs.declared.trace.PrintedTrace.{PrintedTrace}
use Rattle.printed_graphs.specs.declared.trace.TraceEnd.{TraceEnd}
use Rattle.printed_graphs.specs.declared.trace.TraceEnd.TheVariants as end
use Rattle.printed_graphs.specs.Names.{kind_text, work_text, trap_text}
use Rattle.printed_graphs.specs.Nodes.{piece_of}

-- ---- lists

-- texts one after another, with this before the first of them and that before each other
abbrev pub separated : {A : Type 0} → (first between : List ℕ) → (A → List ℕ) → List A → List ℕ
separated first between text [] = []
separated first between text (x ∷ xs) = first ++ text x ++ flat_map (λ y. between ++ text y) xs

-- each on a line of its own
abbrev pub rows : {A : Type 0} → (A → List ℕ) → List A → List ℕ
rows text xs = separated (codes "\n ") (codes ",\n ") text xs

abbrev pub in_commas : {A : Type 0} → (A → List ℕ) → List A → List ℕ
in_commas text xs = separated [] (codes ",") text xs

abbrev pub numbers_json : List ℕ → List ℕ
numbers_json numbers = codes "[" ++ in_commas decimal numbers ++ codes "]"

abbrev pub list_json : Vec ℕ Global → List ℕ
list_json numbers = numbers_json numbers.items

abbrev pub or_null : {A : Type 0} → (A → List ℕ) → Option A → List ℕ
or_null text None = codes "null"
or_null text (Some x) = text x

-- ---- flow graphs

abbrev pub piece_json : Piece → List ℕ
piece_json piece = codes "{\"kind\":\"" ++ kind_text piece.kind ++ (codes "\",\"line\":" ++ decimal piece.line) ++ codes "}"

abbrev pub edge_json : Edge → List ℕ
edge_json edge = codes "{\"from\":" ++ decimal edge.from ++ (codes ",\"to\":" ++ decimal edge.to) ++ (codes ",\"class\":" ++ decimal edge.class) ++ codes "}"

abbrev pub region_json : Region → List ℕ
region_json region = codes "{\"entry\":" ++ decimal region.entry ++ (codes ",\"exit\":" ++ decimal region.exit) ++ (codes ",\"parent\":" ++ decimal region.parent) ++ codes "}"

abbrev pub flow_json : PrintedFlow → List ℕ
flow_json flow = codes "{\"classes\":" ++ decimal flow.classes ++ codes ",\n\"pieces\":[" ++ rows piece_json flow.pieces.items ++ codes "],\n\"edges\":[" ++ rows edge_json flow.edges.items ++ codes "],\n\"regions\":[" ++ rows region_json flow.regions.items ++ codes "]}"

-- ---- dataflow graphs

-- a name between quotes
abbrev pub name_json : Vec ℕ Global → List ℕ
name_json name = codes "\"" ++ name.items ++ codes "\""

abbrev pub line_json : TokenLine → List ℕ
line_json line.Output = codes "{\"kind\":\"output\"}"
line_json (line.Class names) = codes "{\"kind\":\"words\",\"names\":[" ++ in_commas name_json names.items ++ codes "]}"
line_json (line.Loop line) = codes "{\"kind\":\"loop\",\"line\":" ++ decimal line ++ codes "}"

-- the line of the text at which the statement of a node begins, where the flow graph has its piece
abbrev pub source_of : Option PrintedFlow → Node → Option ℕ
source_of flow n = option_and_then (λ f. option_map (λ piece. piece.line) (slice_get f.pieces.items (piece_of n))) flow

-- a node that leads a line on, behind its source
abbrev pub leading_json : (kind : List ℕ) → (piece line : ℕ) → List ℕ
leading_json kind piece line = codes ",\"kind\":\"" ++ kind ++ (codes "\",\"piece\":" ++ decimal piece) ++ (codes ",\"line\":" ++ decimal line) ++ codes "}"

abbrev pub work_json : Node → List ℕ
work_json (node.Operation piece number work lines) = codes ",\"kind\":\"OP\",\"piece\":" ++ decimal piece ++ (codes ",\"number\":" ++ decimal number) ++ codes ",\"work\":\"" ++ work_text work ++ codes "\",\"lines\":" ++ numbers_json lines.items ++ codes "}"
work_json (node.Switch piece line) = leading_json (codes "SWITCH") piece line
work_json (node.Merge piece line) = leading_json (codes "MERGE") piece line

abbrev pub node_json : Option PrintedFlow → Node → List ℕ
node_json flow n = codes "{\"source\":" ++ or_null decimal (source_of flow n) ++ work_json n

abbrev pub operand_json : Operand → List ℕ
operand_json (operand.From node) = codes "{\"node\":" ++ decimal node ++ codes "}"
operand_json (operand.Known z) = codes "{\"known\":" ++ signed_decimal z ++ codes "}"

abbrev pub value_json : Value → List ℕ
value_json value = codes "{\"node\":" ++ decimal value.node ++ codes ",\"operands\":[" ++ in_commas operand_json value.operands.items ++ codes "]}"

abbrev pub wires_json : Wires → List ℕ
wires_json wires = numbers_json wires.edges.items

abbrev pub bypass_json : Bypass → List ℕ
bypass_json bypass = codes "{\"line\":" ++ decimal bypass.line ++ (codes ",\"edge\":" ++ decimal bypass.edge) ++ (codes ",\"next\":" ++ decimal bypass.next) ++ codes "}"

abbrev pub graph_json : Option PrintedFlow → PrintedGraph → List ℕ
graph_json flow graph = codes "{\"lines\":[" ++ rows line_json graph.lines.items ++ codes "],\n\"nodes\":[" ++ rows (node_json flow) graph.nodes.items ++ codes "],\n\"values\":[" ++ rows value_json graph.values.items ++ codes "],\n\"wires\":[" ++ rows wires_json graph.wires.items ++ codes "],\n\"bypasses\":[" ++ rows bypass_json graph.bypasses.items ++ codes "]}"

-- ---- traces

-- a node that fired
abbrev pub firing_json : Firing → List ℕ
firing_json firing = decimal firing.node

abbrev pub end_json : TraceEnd → List ℕ
end_json end.Rest = codes "{\"kind\":\"REST\"}"
end_json (end.Trapped trap line) = codes "{\"kind\":\"TRAP\",\"trap\":\"" ++ trap_text trap ++ (codes "\",\"line\":" ++ decimal line) ++ codes "}"
end_json (end.Limit limit) = codes "{\"kind\":\"LIMIT\",\"firings\":" ++ decimal limit ++ codes "}"

-- the nodes that fired, the round of each, where that is known, and why no more fired
abbrev pub trace_json : (rounds : Option (Vec ℕ Global)) → PrintedTrace → List ℕ
trace_json rounds trace = codes "{\"firings\":[" ++ in_commas firing_json trace.firings.items ++ codes "],\n\"rounds\":" ++ or_null list_json rounds ++ codes ",\n\"end\":" ++ end_json trace.end ++ codes "}"

-- ---- one value after another

abbrev pub printed_json : Printed → (rounds : Option (Vec ℕ Global)) → List ℕ
printed_json printed rounds = codes "{\"format\":1,\"flow\":" ++ or_null flow_json printed.flow ++ codes ",\n\"graph\":" ++ or_null (graph_json printed.flow) printed.graph ++ codes ",\n\"trace\":" ++ or_null (trace_json rounds) printed.trace ++ codes "}\n"
