use Rattle.std.proofs.Common.{◌≡◌, ℕ, None, drop, length}
use Rattle.net_board.specs.Tokens.{with_all}
use Rattle.net_tables.proofs.token_lines.drop_lines.Given as goal

abbrev pub invariant-loop-line : goal.invariant-loop-line
invariant-loop-line l = record {
  lines : with_all l.lines.items (drop l.line-index l.touched) (λ (line : ℕ). None) ≡ with_all l.fn.lines.items l.touched (λ (line : ℕ). None);
  all : length l.lines.items ≡ length l.fn.lines.items;
}
