use Rattle.std.proofs.Common.{◌≡◌, drop, length}
use Rattle.net_board.specs.Tokens.{led_from, with_all}
use Rattle.net_tables.specs.PartsView.{net_in}
use Rattle.net_tables.proofs.token_lines.lead.Given as goal

abbrev pub invariant-loop-line : goal.invariant-loop-line
invariant-loop-line g l = record {
  lines : with_all l.lines.items (drop l.line-index l.touched) (led_from (net_in l.plan) l.edge) ≡ with_all l.fn.lines.items l.touched (led_from (net_in l.plan) l.edge);
  all : length l.lines.items ≡ length l.fn.lines.items;
}
