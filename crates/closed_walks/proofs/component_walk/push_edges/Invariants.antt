use Rattle.std.proofs.Common.{◌≡◌}
use Rattle.closed_walks.specs.Graph.{edges_at}
use Rattle.closed_walks.specs.Component.{marked}
use Rattle.closed_walks.proofs.NodeEdges.{IsAdding}
use Rattle.closed_walks.proofs.component_walk.push_edges.Given as goal

abbrev pub invariant-loop-e : goal.invariant-loop-e
invariant-loop-e l = record {
  edges : l.e-items ≡ edges_at l.g l.node;
  adding : IsAdding l.g (marked l.avoided) l.node l.e-items l.e-index l.fn.pending.items l.pending.items;
}
