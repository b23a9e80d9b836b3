-- What is printed so that it can be read again.
use Rattle.std.specs.Prelude.{ℕ, pos, negsuc, ◌≡◌, ◌<◌, ◌^◌, List, length, Vec, IfSome, All, true}
use Rattle.std.specs.declared.alloc.Global.{Global}
use Rattle.printed_graphs.specs.declared.dataflow.Bypass.{Bypass}
use Rattle.printed_graphs.specs.declared.dataflow.Node.{Node}
use Rattle.printed_graphs.specs.declared.dataflow.Node.TheVariants as node
use Rattle.printed_graphs.specs.declared.dataflow.Operand.{Operand}
use Rattle.printed_graphs.specs.declared.dataflow.Operand.TheVariants as operand
use Rattle.printed_graphs.specs.declared.dataflow.PrintedGraph.{PrintedGraph}
use Rattle.printed_graphs.specs.declared.dataflow.TokenLine.{TokenLine}
use Rattle.printed_graphs.specs.declared.dataflow.TokenLine.TheVariants as line
use Rattle.printed_graphs.specs.declared.dataflow.Value.{Value}
use Rattle.printed_graphs.specs.declared.dataflow.Wires.{Wires}
use Rattle.printed_graphs.specs.declared.flow.Edge.{Edge}
use Rattle.printed_graphs.specs.declared.flow.Piece.{Piece}
use Rattle.printed_graphs.specs.declared.flow.PrintedFlow.{PrintedFlow}
use Rattle.printed_graphs.specs.declared.flow.Region.{Region}
use Rattle.printed_graphs.specs.declared.printed.Printed.{Printed}
use Rattle.printed_graphs.specs.declared.trace.Firing.{Firing}
use Rattle.printed_graphs.specs.declared.trace.NodeName.{NodeName}
use Rattle.printed_graphs.specs.declared.trace.NodeName.TheVariants as name
use Rattle.printed_graphs.specs.declared.trace.PrintedTrace.{PrintedTrace}
use Rattle.printed_graphs.specs.declared.trace.TraceEnd.{TraceEnd}
use Rattle.printed_graphs.specs.declared.trace.TraceEnd.TheVariants as end
use Rattle.printed_graphs.specs.Printed.{printed_text}
use Rattle.printed_graphs.specs.Reading.{is_word_char}
use Rattle.printed_graphs.specs.TraceText.{trace_text}

-- ---- flow graphs: all numbers have 32 bits

abbrev pub IsPrintablePiece : Piece → Type 0
IsPrintablePiece piece = piece.line < 2 ^ 32

pub record IsPrintableEdge (edge : Edge) : Type 0 where
  pub from : edge.from < 2 ^ 32
  pub to : edge.to < 2 ^ 32
  pub class : edge.class < 2 ^ 32

pub record IsPrintableRegion (region : Region) : Type 0 where
  pub entry : region.entry < 2 ^ 32
  pub exit : region.exit < 2 ^ 32
  pub parent : region.parent < 2 ^ 32

pub record IsPrintableFlow (flow : PrintedFlow) : Type 0 where
  pub classes : flow.classes < 2 ^ 32
  pub few_pieces : length flow.pieces.items < 2 ^ 32
  pub few_edges : length flow.edges.items < 2 ^ 32
  pub few_regions : length flow.regions.items < 2 ^ 32
  pub pieces : All IsPrintablePiece flow.pieces.items
  pub edges : All IsPrintableEdge flow.edges.items
  pub regions : All IsPrintableRegion flow.regions.items

-- ---- dataflow graphs: names are capital letters and digits, and each line has its wires

abbrev pub IsPrintableName : Vec ℕ Global → Type 0
IsPrintableName name = All (λ c. is_word_char c ≡ true) name.items

abbrev pub IsPrintableLine : TokenLine → Type 0
IsPrintableLine line.Output = Unit {0}
IsPrintableLine (line.Class names) = All IsPrintableName names.items
IsPrintableLine (line.Loop line) = line < 2 ^ 32

abbrev pub AreShort : List ℕ → Type 0
AreShort numbers = All (λ n. n < 2 ^ 32) numbers

abbrev pub IsPrintableNode : Node → Type 0
IsPrintableNode (node.Operation piece number work lines) = (piece < 2 ^ 32) × (number < 2 ^ 32) × AreShort lines.items
IsPrintableNode (node.Switch piece line) = (piece < 2 ^ 32) × (line < 2 ^ 32)
IsPrintableNode (node.Merge piece line) = (piece < 2 ^ 32) × (line < 2 ^ 32)

abbrev pub IsPrintableOperand : Operand → Type 0
IsPrintableOperand (operand.From node) = node < 2 ^ 32
IsPrintableOperand (operand.Known (pos n)) = n < 2 ^ 31
IsPrintableOperand (operand.Known (negsuc n)) = n < 2 ^ 31

pub record IsPrintableValue (value : Value) : Type 0 where
  pub node : value.node < 2 ^ 32
  pub operands : All IsPrintableOperand value.operands.items

abbrev pub IsPrintableWires : Wires → Type 0
IsPrintableWires wires = AreShort wires.edges.items

pub record IsPrintableBypass (bypass : Bypass) : Type 0 where
  pub line : bypass.line < 2 ^ 32
  pub edge : bypass.edge < 2 ^ 32
  pub next : bypass.next < 2 ^ 32

pub record IsPrintableGraph (graph : PrintedGraph) : Type 0 where
  pub few_lines : length graph.lines.items < 2 ^ 32
  pub few_nodes : length graph.nodes.items < 2 ^ 32
  pub wired : length graph.wires.items ≡ length graph.lines.items
  pub lines : All IsPrintableLine graph.lines.items
  pub nodes : All IsPrintableNode graph.nodes.items
  pub values : All IsPrintableValue graph.values.items
  pub wires : All IsPrintableWires graph.wires.items
  pub bypasses : All IsPrintableBypass graph.bypasses.items

-- ---- traces

abbrev pub IsPrintableNodeName : NodeName → Type 0
IsPrintableNodeName (name.Operation piece number) = (piece < 2 ^ 32) × (number < 2 ^ 32)
IsPrintableNodeName (name.Switch piece line) = (piece < 2 ^ 32) × (line < 2 ^ 32)
IsPrintableNodeName (name.Merge piece line) = (piece < 2 ^ 32) × (line < 2 ^ 32)

pub record IsPrintableFiring (firing : Firing) : Type 0 where
  pub node : firing.node < 2 ^ 32
  pub name : IsPrintableNodeName firing.name

abbrev pub IsPrintableEnd : TraceEnd → Type 0
IsPrintableEnd end.Rest = Unit {0}
IsPrintableEnd (end.Trapped trap line) = line < 2 ^ 32
IsPrintableEnd (end.Limit limit) = limit < 2 ^ 64

pub record IsPrintableTrace (trace : PrintedTrace) : Type 0 where
  pub firings : All IsPrintableFiring trace.firings.items
  pub end : IsPrintableEnd trace.end

-- ---- one text after another

-- Without a firing, and at rest, a trace has no text: it is none.
abbrev pub HasText : PrintedTrace → Type 0
HasText trace = 0 < length (trace_text trace)

pub record IsPrintable (printed : Printed) : Type 0 where
  pub flow : IfSome printed.flow IsPrintableFlow
  pub graph : IfSome printed.graph IsPrintableGraph
  pub trace : IfSome printed.trace IsPrintableTrace
  pub text : IfSome printed.trace HasText

-- the text of what can be printed
abbrev pub IsPrintedText : List ℕ → Type 0
IsPrintedText text = (printed : Printed) × IsPrintable printed × (text ≡ printed_text printed)
