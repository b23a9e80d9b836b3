use Rattle.std.proofs.Common.{◌≡◌, ◌==◌, filter, take}
use Rattle.closed_walks.specs.Graph.{edges_at, from}
use Rattle.net_tables.proofs.tables.outs.Given as goal

abbrev pub invariant-loop-e : goal.invariant-loop-e
invariant-loop-e l = record {
  edges : l.e-items ≡ edges_at l.g l.piece;
  list : l.list ≡ filter (λ e. from l.g e == l.piece) (take l.e-index l.e-items);
}
