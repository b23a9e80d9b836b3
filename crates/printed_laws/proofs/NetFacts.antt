-- What is known of the net of a program whose numbers have 32 bits.
use Rattle.std.proofs.Common.{◌≡◌, ℕ, ℤ, suc, ◌<◌, ◌≤◌, ◌^◌, Bool, List, length, ap, sym, subst, arith}
use Rattle.std.proofs.Math.Nat.{lt_of_le_of_lt}
use Rattle.closed_walks.specs.Graph.{Graph, edge_count}
use Rattle.closed_walks.specs.Region.{IsFlowGraph}
use Rattle.f77_tree.specs.declared.programs.Program.{Program}
use Rattle.alias_classes.specs.Classes.{class_count}
use Rattle.alias_classes.specs.Number.{HasFewClasses, number_of_classes}
use Rattle.cfg_build.specs.Flow.{flow}
use Rattle.region_tree.specs.Tree.{Tree, IsRegionTree}
use Rattle.dep_routing.specs.Next.{Next}
use Rattle.dep_routing.specs.Routing.{next_at}
use Rattle.net_board.specs.Nodes.{graph_in}
use Rattle.op_board.specs.OperationNets.{OperationNet, all_operation_nodes}
use Rattle.program_nets.specs.Game.{IsNetOn}
use Rattle.printed_laws.specs.ShortFlow.{IsShortFlow}
use Rattle.printed_laws.specs.ShortNet.{IsShortNet}
use Rattle.printed_laws.specs.ShortProgram.{IsShortProgram}
use Rattle.printed_laws.proofs.GraphPrinted.{GraphFacts}
use Rattle.printed_laws.proofs.NodeLines.{IsBelow}
use Rattle.printed_laws.proofs.WireLines.{AreLed}

-- a line is led to an edge of the graph
abbrev pub NextExists : Type 0
NextExists = (g : Graph) (t : Tree) (touches : ℕ → ℕ → Bool) (line e f : ℕ) → IsFlowGraph g → IsRegionTree g t → e < edge_count g → Next g t touches line e f → f < edge_count g

own_graph : (p : Program) (words : List ℤ) (x : OperationNet) → IsNetOn p words x → graph_in x.net ≡ (flow p.execs).graph
own_graph p words x own = ap graph_in own.is

few_lines : (lines classes number : ℕ) → lines ≡ suc classes → classes ≡ number → number < 1024 → lines ≤ 1024
few_lines lines classes number is same few = omega (arith, is, same, few)

lines_are_short : 1024 < 2 ^ 32
lines_are_short = omega arith

pieces_are_short : 160008 < 2 ^ 32
pieces_are_short = omega arith

pub net_below : (p : Program) (words : List ℤ) (x : OperationNet) (own : IsNetOn p words x) → (flow p.execs).graph.nodes ≤ 160008 → class_count own.parts.classes ≡ number_of_classes p → HasFewClasses p → length (all_operation_nodes x) < 2 ^ 32 → IsBelow x (2 ^ 32)
net_below p words x own pieces counted few nodes = record {
  pieces = subst (λ g. g.nodes < 2 ^ 32) (sym (own_graph p words x own)) (lt_of_le_of_lt pieces pieces_are_short);
  lines = lt_of_le_of_lt (few_lines x.net.routing.lines (class_count own.parts.classes) (number_of_classes p) own.parts.own_routing.count counted few) lines_are_short;
  nodes = nodes;
}

pub net_facts : (p : Program) (words : List ℤ) (x : OperationNet) (own : IsNetOn p words x) → IsFlowGraph (flow p.execs).graph → (flow p.execs).graph.nodes ≤ 160008 → class_count own.parts.classes ≡ number_of_classes p → NextExists → HasFewClasses p → IsShortProgram p → IsShortFlow (flow p.execs) → IsShortNet x → GraphFacts p own.parts.classes x
net_facts p words x own strong pieces counted leads few short flow_short net_short =
    let parts = own.parts in
    let routing = parts.own_routing in
    let same = own_graph p words x own in
    record {
      program = parts.program;
      short = short;
      loops = parts.own_classes.loops;
      lines = routing.count;
      few = few_lines x.net.routing.lines (class_count parts.classes) (number_of_classes p) routing.count counted few;
      below = net_below p words x own pieces counted few net_short.nodes;
      net = net_short;
      edges = subst (λ g. edge_count g < 2 ^ 32) (sym same) flow_short.edges;
      led = subst (λ g. AreLed g x.net.routing) (sym same)
          (λ line e exists lt. leads (flow p.execs).graph parts.tree x.net.touches line e (next_at x.net.routing line e) strong parts.own_tree lt (routing.next line e (subst (λ n. line < n) routing.count exists) lt));
    }
