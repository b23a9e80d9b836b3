use Rattle.std.proofs.Common.{◌≡◌, ◌++◌, drop}
use Rattle.graph_dependences.specs.Joined.{passing_edges}
use Rattle.graph_dependences.proofs.joined.add_passing.Given as goal

abbrev pub invariant-loop-node : goal.invariant-loop-node
invariant-loop-node l = record {
  number : l.number ≡ l.node-index;
  nodes : l.joined.nodes ≡ l.fn.joined.nodes;
  edges : l.joined.edges ++ passing_edges l.passing l.line l.number (drop l.node-index l.nodes) ≡ l.fn.joined.edges ++ passing_edges l.passing l.line 0 l.nodes;
}
