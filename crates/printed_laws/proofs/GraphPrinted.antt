-- The value whose text tells the net of a program.
use Rattle.std.proofs.Common.{◌≡◌, ℕ, suc, ◌+◌, ◌*◌, ◌<◌, ◌≤◌, ◌^◌, List, ◌++◌, length, flat_map, All, refl, ap, sym, ◌∙◌, subst, arith}
use Rattle.std.proofs.Math.Nat.{lt_of_le_of_lt, lt_trans, mul-le-mul_right}
use Rattle.std.proofs.lemmas.List.FromFn.{length-map-range_with_len}
use Rattle.closed_walks.specs.Graph.{edge_count}
use Rattle.f77_tree.specs.declared.programs.Program.{Program}
use Rattle.f77_tree.specs.WellFormed.{IsWellFormed}
use Rattle.alias_classes.specs.Classes.{ClassTable, class_count}
use Rattle.net_board.specs.Nodes.{graph_in}
use Rattle.op_board.specs.OperationNets.{OperationNet, all_operation_nodes, operation_node}
use Rattle.graph_texts.specs.GraphText.{graph_text, hop_lines, line_lines, node_lines, size_line, value_lines, wire_lines}
use Rattle.printed_graphs.specs.declared.dataflow.Bypass.{Bypass}
use Rattle.printed_graphs.specs.declared.dataflow.Node.{Node}
use Rattle.printed_graphs.specs.declared.dataflow.PrintedGraph.{PrintedGraph}
use Rattle.printed_graphs.specs.declared.dataflow.TokenLine.{TokenLine}
use Rattle.printed_graphs.specs.declared.dataflow.Value.{Value}
use Rattle.printed_graphs.specs.declared.dataflow.Wires.{Wires}
use Rattle.printed_graphs.specs.DataflowText as printed
use Rattle.printed_graphs.specs.Printable.{IsPrintableBypass, IsPrintableGraph, IsPrintableLine, IsPrintableNode, IsPrintableValue, IsPrintableWires}
use Rattle.printed_graphs.specs.Words.{lines_from}
use Rattle.printed_laws.specs.ShortNet.{IsShortNet}
use Rattle.printed_laws.specs.ShortProgram.{IsShortProgram}
use Rattle.printed_laws.proofs.LoopNumbers.{loops_are_counted, loops_are_numbered}
use Rattle.printed_laws.proofs.NodeLines.{IsBelow, nodes_printable, nodes_told, nodes_told_of, node_of}
use Rattle.printed_laws.proofs.Parts.{IsGraphText}
use Rattle.printed_laws.proofs.Rows.{vec_with, capped, capped_is, short_is_small}
use Rattle.printed_laws.proofs.TokenLines.{tokens_counted, tokens_of, tokens_printable, tokens_told}
use Rattle.printed_laws.proofs.ValueLines.{values_few, values_printable, values_told, values_told_of}
use Rattle.printed_laws.proofs.WireLines.{AreLed, bypasses_few, bypasses_printable, bypasses_told, bypasses_told_of, wires_counted, wires_printable, wires_told, wires_told_of}

-- What is known of the program and its net.
pub record GraphFacts (p : Program) (c : ClassTable) (x : OperationNet) : Type 0 where
  pub program : IsWellFormed p
  pub short : IsShortProgram p
  pub loops : c.loops ≡ p.loops
  pub lines : x.net.routing.lines ≡ suc (class_count c)
  pub few : x.net.routing.lines ≤ 1024
  pub below : IsBelow x (2 ^ 32)
  pub net : IsShortNet x
  pub edges : edge_count (graph_in x.net) < 2 ^ 32
  pub led : AreLed (graph_in x.net) x.net.routing

abbrev tokens_in : Program → ClassTable → List TokenLine
tokens_in p c = tokens_of p.names c p.execs

abbrev wires_in : OperationNet → List Wires
wires_in x = wires_told_of (graph_in x.net) x.net.routing

abbrev bypasses_in : OperationNet → List Bypass
bypasses_in x = bypasses_told_of (graph_in x.net) x.net.routing

abbrev graph_of : Program → ClassTable → OperationNet → PrintedGraph
graph_of p c x = record {
  lines = vec_with (tokens_in p c);
  nodes = vec_with (nodes_told_of x);
  values = vec_with (values_told_of x);
  wires = vec_with (wires_in x);
  bypasses = vec_with (bypasses_in x);
}

-- ---- how many there are

small_product : (lines edges : ℕ) → lines ≤ 1024 → edges < 2 ^ 32 → lines * edges < 2 ^ 63
small_product lines edges few short =
    let most : lines * edges ≤ 1024 * edges = mul-le-mul_right edges few in
    omega (arith, most, short)

tokens_count : (p : Program) (c : ClassTable) (x : OperationNet) → GraphFacts p c x → length (tokens_in p c) ≡ x.net.routing.lines
tokens_count p c x facts =
    let execs = facts.program.execs in
    let begun = loops_are_counted p.execs p.loops execs.loops_nest in
    tokens_counted p.names c p.execs ∙ ap (λ n. suc (c.word_classes + n)) (begun ∙ sym facts.loops) ∙ sym facts.lines

nodes_count : (x : OperationNet) → length (nodes_told_of x) ≡ length (all_operation_nodes x)
nodes_count x = length-map-range_with_len (λ k. node_of x (operation_node x k)) 0 (length (all_operation_nodes x))

-- its lists are those of values in memory
record AreKept (p : Program) (c : ClassTable) (x : OperationNet) : Type 0 where
  lines : capped (tokens_in p c) ≡ tokens_in p c
  nodes : capped (nodes_told_of x) ≡ nodes_told_of x
  values : capped (values_told_of x) ≡ values_told_of x
  wires : capped (wires_in x) ≡ wires_in x
  bypasses : capped (bypasses_in x) ≡ bypasses_in x

kept_if : {X : Type 0} (xs : List X) (n : ℕ) → length xs ≡ n → n < 2 ^ 32 → capped xs ≡ xs
kept_if xs n is few = capped_is xs (subst (λ m. m < 2 ^ 63) (sym is) (lt_trans few short_is_small))

all_kept : (p : Program) (c : ClassTable) (x : OperationNet) → GraphFacts p c x → AreKept p c x
all_kept p c x facts =
    let below = facts.below in
    record {
      lines = kept_if (tokens_in p c) x.net.routing.lines (tokens_count p c x facts) below.lines;
      nodes = kept_if (nodes_told_of x) (length (all_operation_nodes x)) (nodes_count x) below.nodes;
      values = capped_is (values_told_of x) (values_few x (2 ^ 63) (lt_trans below.nodes short_is_small));
      wires = kept_if (wires_in x) x.net.routing.lines (wires_counted (graph_in x.net) x.net.routing) below.lines;
      bypasses = capped_is (bypasses_in x) (lt_of_le_of_lt (bypasses_few (graph_in x.net) x.net.routing) (small_product x.net.routing.lines (edge_count (graph_in x.net)) facts.few facts.edges));
    }

-- ---- its text

texts_same : (a b c d e f u v w x y z : List ℕ) → a ≡ u → b ≡ v → c ≡ w → d ≡ x → e ≡ y → f ≡ z → a ++ b ++ c ++ d ++ e ++ f ≡ u ++ v ++ w ++ x ++ y ++ z
texts_same a b c d e f u v w x y z one two three four five six = rw (one, two, three, four, five, six) refl

graph_told : (p : Program) (c : ClassTable) (x : OperationNet) → GraphFacts p c x → printed.graph_text (graph_of p c x) ≡ graph_text p c x
graph_told p c x facts =
    let kept = all_kept p c x facts in
    let below = facts.below in
    let declared = facts.program.declarations in
    let lines = ap length kept.lines ∙ tokens_count p c x facts in
    let nodes = ap length kept.nodes ∙ nodes_count x in
    texts_same
    (printed.size_text (length (capped (tokens_in p c))) (length (capped (nodes_told_of x))))
    (lines_from printed.token_line_text 0 (capped (tokens_in p c)))
    (lines_from printed.node_line_text 0 (capped (nodes_told_of x)))
    (flat_map printed.value_text (capped (values_told_of x)))
    (lines_from printed.wires_text 0 (capped (wires_in x)))
    (flat_map printed.bypass_text (capped (bypasses_in x)))
    (size_line x) (line_lines p c) (node_lines x) (value_lines x) (wire_lines (graph_in x.net) x.net.routing) (hop_lines (graph_in x.net) x.net.routing)
    (ap (λ n. printed.size_text n (length (capped (nodes_told_of x)))) lines ∙ ap (λ n. printed.size_text x.net.routing.lines n) nodes)
    (ap (lines_from printed.token_line_text 0) kept.lines ∙ tokens_told p c declared.table (lt_trans facts.short.names short_is_small) (loops_are_numbered p.execs p.loops facts.program.execs.loops_nest))
    (ap (lines_from printed.node_line_text 0) kept.nodes ∙ nodes_told x (lt_trans below.lines short_is_small))
    (ap (flat_map printed.value_text) kept.values ∙ values_told x facts.net)
    (ap (lines_from printed.wires_text 0) kept.wires ∙ wires_told (graph_in x.net) x.net.routing (lt_trans facts.edges short_is_small))
    (ap (flat_map printed.bypass_text) kept.bypasses ∙ bypasses_told (graph_in x.net) x.net.routing)

-- ---- its numbers

graph_fits : (p : Program) (c : ClassTable) (x : OperationNet) → GraphFacts p c x → IsPrintableGraph (graph_of p c x)
graph_fits p c x facts =
    let kept = all_kept p c x facts in
    let below = facts.below in
    let g = graph_in x.net in
    let r = x.net.routing in
    let declared = facts.program.declarations in
    let lines = ap length kept.lines ∙ tokens_count p c x facts in
    let nodes = ap length kept.nodes ∙ nodes_count x in
    let wires = ap length kept.wires ∙ wires_counted g r in
    record {
      few_lines = subst (λ n. n < 2 ^ 32) (sym lines) below.lines;
      few_nodes = subst (λ n. n < 2 ^ 32) (sym nodes) below.nodes;
      wired = wires ∙ sym lines;
      lines = subst (λ (ls : List TokenLine). All IsPrintableLine ls) (sym kept.lines) (tokens_printable p.names c p.execs declared.table (lt_trans facts.short.names short_is_small) facts.short.lines);
      nodes = subst (λ (ns : List Node). All IsPrintableNode ns) (sym kept.nodes) (nodes_printable x below);
      values = subst (λ (vs : List Value). All IsPrintableValue vs) (sym kept.values) (values_printable x facts.net);
      wires = subst (λ (ws : List Wires). All IsPrintableWires ws) (sym kept.wires) (wires_printable g r facts.edges);
      bypasses = subst (λ (bs : List Bypass). All IsPrintableBypass bs) (sym kept.bypasses) (bypasses_printable g r below.lines facts.edges facts.led);
    }

-- ---- the text can be read

pub graph_told_by : (p : Program) (c : ClassTable) (x : OperationNet) (text : List ℕ) → GraphFacts p c x → text ≡ graph_text p c x → IsGraphText text
graph_told_by p c x text facts is = record { graph = graph_of p c x; fits = graph_fits p c x facts; is = is ∙ sym (graph_told p c x facts) }
