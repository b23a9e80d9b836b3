use Rattle.std.proofs.Common.{◌≡◌, ◌<◌, ℕ, take}
use Rattle.std.specs.List.{list_any}
use Rattle.class_set.specs.ClassSet.{holds}
use Rattle.closed_walks.specs.Graph.{edges_at}
use Rattle.net_board.specs.Nodes.{comes_along}
use Rattle.net_tables.proofs.tables.free_lines.Given as goal

abbrev pub invariant-loop-e : goal.invariant-loop-e
invariant-loop-e g l = record {
  edges : l.e-items ≡ edges_at l.plan.flow.now.graph l.piece;
  free : (line : ℕ) → line < l.plan.routes.now.lines → holds l.free line ≡ list_any (comes_along l.plan.flow.now.graph l.plan.routes.now l.piece line) (take l.e-index l.e-items);
}
