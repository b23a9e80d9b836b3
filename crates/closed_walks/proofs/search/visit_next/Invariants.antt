use Rattle.std.proofs.Common.{◌≡◌}
use Rattle.closed_walks.specs.Graph.{edges_at}
use Rattle.closed_walks.proofs.Searches.{IsVisiting}
use Rattle.closed_walks.proofs.search.visit_next.Given as goal

abbrev pub invariant-loop-e : goal.invariant-loop-e
invariant-loop-e l = record {
  edges : l.e-items ≡ edges_at l.g l.node;
  visiting : IsVisiting l.g l.without l.node l.e-items l.e-index l.fn.visited.items l.fn.frontier.items l.visited.items l.frontier.items;
}
