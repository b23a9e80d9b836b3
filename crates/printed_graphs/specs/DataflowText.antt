-- The text of a dataflow graph.
use Rattle.std.specs.Prelude.{ℕ, List, [], ◌∷◌, ◌++◌, length, codes, flat_map, Vec}
use Rattle.std.specs.declared.alloc.Global.{Global}
use Rattle.std.specs.Fmt.{decimal, signed_decimal}
use Rattle.printed_graphs.specs.declared.dataflow.Bypass.{Bypass}
use Rattle.printed_graphs.specs.declared.dataflow.Node.{Node}
use Rattle.printed_graphs.specs.declared.dataflow.Node.TheVariants.{Operation, Switch, Merge}
use Rattle.printed_graphs.specs.declared.dataflow.Operand.{Operand}
use Rattle.printed_graphs.specs.declared.dataflow.Operand.TheVariants.{From, Known}
use Rattle.printed_graphs.specs.declared.dataflow.PrintedGraph.{PrintedGraph}
use Rattle.printed_graphs.specs.declared.dataflow.TokenLine.{TokenLine}
use Rattle.printed_graphs.specs.declared.dataflow.TokenLine.TheVariants.{Output, Class, Loop}
use Rattle.printed_graphs.specs.declared.dataflow.Value.{Value}
use Rattle.printed_graphs.specs.declared.dataflow.Wires.{Wires}
use Rattle.printed_graphs.specs.Names.{work_text}
use Rattle.printed_graphs.specs.Words.{field_text, numbers_text, lines_from}

-- how many lines and nodes there are
abbrev pub size_text : (lines nodes : ℕ) → List ℕ
size_text lines nodes = codes "LINES " ++ decimal lines ++ codes " NODES " ++ decimal nodes ++ 10 ∷ []

-- ---- token lines

-- a name after a blank
abbrev pub name_text : Vec ℕ Global → List ℕ
name_text name = 32 ∷ name.items

abbrev pub names_text : List (Vec ℕ Global) → List ℕ
names_text names = flat_map name_text names

abbrev pub line_name_text : TokenLine → List ℕ
line_name_text Output = codes " *OUT"
line_name_text (Class names) = names_text names.items
line_name_text (Loop line) = codes " *DO" ++ decimal line

abbrev pub token_line_text : (number : ℕ) → TokenLine → List ℕ
token_line_text number line = codes "L " ++ decimal number ++ line_name_text line ++ 10 ∷ []

-- ---- nodes

abbrev pub node_text : Node → List ℕ
node_text (Operation piece number work lines) = codes " OP " ++ decimal piece ++ field_text number ++ 32 ∷ [] ++ work_text work ++ numbers_text lines.items
node_text (Switch piece line) = codes " SWITCH " ++ decimal piece ++ field_text line
node_text (Merge piece line) = codes " MERGE " ++ decimal piece ++ field_text line

abbrev pub node_line_text : (number : ℕ) → Node → List ℕ
node_line_text number node = codes "N " ++ decimal number ++ node_text node ++ 10 ∷ []

-- ---- values

-- an operand after a blank
abbrev pub operand_text : Operand → List ℕ
operand_text (From node) = 32 ∷ decimal node
operand_text (Known z) = 32 ∷ 61 ∷ signed_decimal z

abbrev pub value_text : Value → List ℕ
value_text value = codes "V " ++ decimal value.node ++ flat_map operand_text value.operands.items ++ 10 ∷ []

-- ---- wires

abbrev pub wires_text : (line : ℕ) → Wires → List ℕ
wires_text line wires = codes "W " ++ decimal line ++ numbers_text wires.edges.items ++ 10 ∷ []

abbrev pub bypass_text : Bypass → List ℕ
bypass_text bypass = codes "H " ++ decimal bypass.line ++ field_text bypass.edge ++ field_text bypass.next ++ 10 ∷ []

-- ---- the whole text; each line has its wires

abbrev pub graph_text : PrintedGraph → List ℕ
graph_text graph = size_text (length graph.lines.items) (length graph.nodes.items) ++ lines_from token_line_text 0 graph.lines.items ++ lines_from node_line_text 0 graph.nodes.items ++ flat_map value_text graph.values.items ++ lines_from wires_text 0 graph.wires.items ++ flat_map bypass_text graph.bypasses.items
