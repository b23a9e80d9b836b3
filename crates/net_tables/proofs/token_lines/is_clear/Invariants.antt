use Rattle.std.proofs.Common.{◌≡◌, ◌<◌, ℕ, true, not, is_some}
use Rattle.net_board.specs.TokenEdges.{edge_at}
use Rattle.net_tables.proofs.token_lines.is_clear.Given as goal

abbrev pub invariant-loop-k : goal.invariant-loop-k
invariant-loop-k l = (j : ℕ) → l.first < j → j < l.k → not (is_some (edge_at l.edges.items j)) ≡ true
