use Rattle.std.proofs.Common.{◌≡◌}
use Rattle.closed_walks.specs.Graph.{edge_count}
use Rattle.bench_walk.proofs.draws.Draws.graph.Given as goal

abbrev pub invariant-loop-e : goal.invariant-loop-e
invariant-loop-e l = record {
  nodes : l.g.nodes ≡ l.nodes;
  edges : edge_count l.g ≡ l.e;
}
