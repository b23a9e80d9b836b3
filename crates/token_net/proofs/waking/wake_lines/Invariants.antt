use Rattle.std.proofs.Common.{◌<◌, ◌≤◌, ◌+◌, ℕ, All, get_or, vec_len, vec_capacity}
use Rattle.net_board.specs.TokenEdges.{edge_at}
use Rattle.net_board.specs.WokenNodes.{HasNext, no_node}
use Rattle.net_tables.specs.LookupView.{net_on}
use Rattle.token_net.specs.WokenList.{Keeps}
use Rattle.token_net.proofs.waking.wake_lines.Given as goal

abbrev pub invariant-loop-line : goal.invariant-loop-line
invariant-loop-line g l = record {
  has : (j : ℕ) → j < l.line-index → HasNext (net_on l.board) l.woken.items (get_or l.moved j 0) (edge_at l.lines.items (get_or l.moved j 0));
  kept : Keeps l.fn.woken.items l.woken.items;
  nodes : All (λ (j : ℕ). j < no_node (net_on l.board)) l.woken.items;
  few : vec_len l.woken ≤ vec_len l.fn.woken + l.line-index;
  capacity : vec_capacity l.fn.woken ≤ vec_capacity l.woken;
}
