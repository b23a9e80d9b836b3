use Rattle.std.proofs.Common.{◌≡◌, ◌++◌, drop}
use Rattle.graph_dependences.specs.Control.{back_edges}
use Rattle.graph_dependences.proofs.control.add_back_edges.Given as goal

abbrev pub invariant-loop-edge : goal.invariant-loop-edge
invariant-loop-edge l = record {
  nodes : l.backward.nodes ≡ l.fn.backward.nodes;
  edges : l.backward.edges ++ back_edges l.without (drop l.edge-index l.edges) ≡ l.fn.backward.edges ++ back_edges l.without l.edges;
}
