use Rattle.std.proofs.Common.{◌≡◌, ◌-◌, ℕ, suc, Some, length}
use Rattle.std.specs.List.{range_with_len}
use Rattle.net_board.specs.Tokens.{with_all}
use Rattle.net_tables.proofs.token_lines.leave.Given as goal

abbrev pub invariant-loop-k : goal.invariant-loop-k
invariant-loop-k l = record {
  edges : with_all l.edges.items (range_with_len l.k (l.end - l.k)) (λ (k : ℕ). Some l.edge) ≡ with_all l.fn.edges.items (range_with_len (suc l.first) (l.end - suc l.first)) (λ (k : ℕ). Some l.edge);
  all : length l.edges.items ≡ length l.fn.edges.items;
}
