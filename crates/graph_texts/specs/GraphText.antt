-- The text that tells the net of operations of a program: its lines, nodes and wires.
use Rattle.std.specs.Prelude.{ℕ, ◌+◌, ◌==◌, Bool, false, List, [], ◌∷◌, ◌++◌, length, filter, flat_map, codes, nat_lt}
use Rattle.std.specs.Fmt.{decimal, signed_decimal}
use Rattle.std.specs.List.{list_any, range_with_len}
use Rattle.closed_walks.specs.Graph.{Graph, edge_count}
use Rattle.f77_tree.specs.declared.programs.Exec.{Exec}
use Rattle.f77_tree.specs.declared.programs.ExecKind.{ExecKind}
use Rattle.f77_tree.specs.declared.programs.ExecKind.TheVariants.{DoStart}
use Rattle.f77_tree.specs.declared.programs.NameInfo.{NameInfo}
use Rattle.f77_tree.specs.declared.programs.Program.{Program}
use Rattle.alias_classes.specs.Classes.{ClassTable, class_of_loop, class_of_word}
use Rattle.dep_routing.specs.FreeLines.{is_bypass}
use Rattle.dep_routing.specs.Routing.{Routing, next_at, wire_at}
use Rattle.firing.specs.declared.system.NodeName.{NodeName}
use Rattle.firing.specs.declared.system.NodeName.TheVariants.{Act, Merge, Switch, Op}
use Rattle.net_board.specs.Nodes.{graph_in}
use Rattle.op_board.specs.Operations.{Operand, Known, From}
use Rattle.op_board.specs.OperationNets.{OperationNet, all_operation_nodes, first_operation, needed, operation_at, operation_node}
use Rattle.graph_texts.specs.OperationNames.{work_name}
use Rattle.graph_texts.specs.NameWords.{words_of}

-- numbers, each after a blank
abbrev pub numbers_text : List ℕ → List ℕ
numbers_text numbers = flat_map (λ n. 32 ∷ decimal n) numbers

-- ---- lines of tokens: that of output, the classes of words with their names, and those of DOs with the lines of their statements

-- the name has a word of the class
abbrev pub has_class : ClassTable → (class : ℕ) → NameInfo → Bool
has_class c class info = list_any (λ word. class_of_word c word == class) (words_of info)

-- the names that have a word of the class, in the order in which they first appear, each after a blank
abbrev pub class_names : List NameInfo → ClassTable → (class : ℕ) → List ℕ
class_names names c class = flat_map (λ (info : NameInfo). 32 ∷ info.name) (filter (has_class c class) names)

abbrev pub class_line : List NameInfo → ClassTable → (class : ℕ) → List ℕ
class_line names c class = codes "L " ++ decimal class ++ class_names names c class ++ 10 ∷ []

abbrev pub class_lines : List NameInfo → ClassTable → List ℕ
class_lines names c = flat_map (class_line names c) (range_with_len 1 c.word_classes)

-- the line of the DO that an executable begins, if it does; `line` is where it stands in the source
abbrev pub loop_line : ClassTable → ExecKind → (line : ℕ) → List ℕ
loop_line c (DoStart loop_no var first last step body exit) line = codes "L " ++ decimal (class_of_loop c loop_no) ++ codes " *DO" ++ decimal line ++ 10 ∷ []
loop_line c _ line = []

-- those of all DOs, in the order of the text
abbrev pub loop_lines : ClassTable → List Exec → List ℕ
loop_lines c execs = flat_map (λ (exec : Exec). loop_line c exec.kind exec.line) execs

abbrev pub line_lines : Program → ClassTable → List ℕ
line_lines p c = codes "L 0 *OUT" ++ 10 ∷ [] ++ class_lines p.names c ++ loop_lines c p.execs

-- ---- nodes

-- the name of a node, and what an operation does with the lines that it needs
abbrev pub node_text : OperationNet → NodeName → List ℕ
node_text x (Op piece i) = codes " OP " ++ decimal piece ++ 32 ∷ decimal i ++ 32 ∷ work_name (operation_at x piece i).work ++ numbers_text (needed x piece i)
node_text x (Switch piece line) = codes " SWITCH " ++ decimal piece ++ 32 ∷ decimal line
node_text x (Merge piece line) = codes " MERGE " ++ decimal piece ++ 32 ∷ decimal line
node_text x (Act piece) = codes " ACT " ++ decimal piece

abbrev pub node_line : OperationNet → (k : ℕ) → List ℕ
node_line x k = codes "N " ++ decimal k ++ node_text x (operation_node x k) ++ 10 ∷ []

-- all nodes, in the order of their numbers
abbrev pub node_lines : OperationNet → List ℕ
node_lines x = flat_map (node_line x) (range_with_len 0 (length (all_operation_nodes x)))

-- the node that gives an operand of an operation of a piece, or its known value
abbrev pub operand_text : OperationNet → (piece : ℕ) → Operand → List ℕ
operand_text x piece (From number) = 32 ∷ decimal (first_operation x piece + number)
operand_text x piece (Known z) = codes " =" ++ signed_decimal z

-- the operands of an operation
abbrev pub operands_text : OperationNet → NodeName → List ℕ
operands_text x (Op piece i) = flat_map (operand_text x piece) (operation_at x piece i).operands
operands_text x _ = []

-- the node is an operation that has some
abbrev pub has_operands : OperationNet → NodeName → Bool
has_operands x (Op piece i) = nat_lt 0 (length (operation_at x piece i).operands)
has_operands x _ = false

-- a line of them, where there are some
abbrev pub operands_line : OperationNet → (k piece : ℕ) → List Operand → List ℕ
operands_line x k piece [] = []
operands_line x k piece (operand ∷ operands) = codes "V " ++ decimal k ++ flat_map (operand_text x piece) (operand ∷ operands) ++ 10 ∷ []

abbrev pub value_text : OperationNet → (k : ℕ) → NodeName → List ℕ
value_text x k (Op piece i) = operands_line x k piece (operation_at x piece i).operands
value_text x k _ = []

abbrev pub value_lines : OperationNet → List ℕ
value_lines x = flat_map (λ k. value_text x k (operation_node x k)) (range_with_len 0 (length (all_operation_nodes x)))

-- ---- wires

-- the wires of a line, rising
abbrev pub wires_of : Graph → Routing → (line : ℕ) → List ℕ
wires_of g r line = filter (wire_at r line) (range_with_len 0 (edge_count g))

abbrev pub wire_line : Graph → Routing → (line : ℕ) → List ℕ
wire_line g r line = codes "W " ++ decimal line ++ numbers_text (wires_of g r line) ++ 10 ∷ []

abbrev pub wire_lines : Graph → Routing → List ℕ
wire_lines g r = flat_map (wire_line g r) (range_with_len 0 r.lines)

-- where a line is led that bypasses the region that an edge enters
abbrev pub hop_line : Routing → (line e : ℕ) → List ℕ
hop_line r line e = codes "H " ++ decimal line ++ 32 ∷ decimal e ++ 32 ∷ decimal (next_at r line e) ++ 10 ∷ []

abbrev pub hops_of : Graph → Routing → (line : ℕ) → List ℕ
hops_of g r line = filter (λ e. is_bypass g r e line) (range_with_len 0 (edge_count g))

abbrev pub hops_text : Graph → Routing → (line : ℕ) → List ℕ
hops_text g r line = flat_map (hop_line r line) (hops_of g r line)

abbrev pub hop_lines : Graph → Routing → List ℕ
hop_lines g r = flat_map (hops_text g r) (range_with_len 0 r.lines)

-- ---- the text: each part stands after the ones before it

abbrev pub size_line : OperationNet → List ℕ
size_line x = codes "LINES " ++ decimal x.net.routing.lines ++ codes " NODES " ++ decimal (length (all_operation_nodes x)) ++ 10 ∷ []

abbrev pub graph_text : Program → ClassTable → OperationNet → List ℕ
graph_text p c x = size_line x ++ line_lines p c ++ node_lines x ++ value_lines x ++ wire_lines (graph_in x.net) x.net.routing ++ hop_lines (graph_in x.net) x.net.routing
