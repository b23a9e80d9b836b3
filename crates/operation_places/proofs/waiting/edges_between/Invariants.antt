use Rattle.std.proofs.Common.{◌≡◌, ◌≤◌, ◌-◌, ℕ, suc, not, is_some}
use Rattle.std.specs.List.{range_with_len}
use Rattle.net_board.specs.TokenEdges.{edge_at}
use Rattle.operation_tables.specs.Waits.{failing}
use Rattle.operation_places.proofs.waiting.edges_between.Given as goal

abbrev pub invariant-loop-switch : goal.invariant-loop-switch
invariant-loop-switch l = record {
  count : l.count ≡ failing (λ (k : ℕ). not (is_some (edge_at l.edges.items k))) (range_with_len (suc l.first) (l.switch - suc l.first));
  few : l.count ≤ l.switch;
}
