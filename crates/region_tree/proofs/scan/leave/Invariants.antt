use Rattle.std.proofs.Common.{◌≡◌}
use Rattle.closed_walks.specs.Graph.{edges_at}
use Rattle.region_tree.proofs.Scanning.{IsLeaving}
use Rattle.region_tree.proofs.scan.leave.Given as goal

abbrev pub invariant-loop-e : goal.invariant-loop-e
invariant-loop-e l = record {
  items : l.e-items ≡ edges_at l.g l.node;
  leaving : IsLeaving l.g l.node l.e-index l.fn.edges.items l.fn.seen.items l.fn.order.items l.edges.items l.seen.items l.order.items;
}
