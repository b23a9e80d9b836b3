use Rattle.std.proofs.Common.{◌≡◌, ℕ, true, take}
use Rattle.std.specs.List.{list_all}
use Rattle.net_board.specs.Nodes.{graph_in}
use Rattle.net_board.specs.TokenEdges.{edge_at}
use Rattle.net_board.specs.Tokens.{leads_to}
use Rattle.net_tables.specs.PartsView.{net_in}
use Rattle.net_tables.proofs.token_lines.are_before.Given as goal

abbrev pub invariant-loop-line : goal.invariant-loop-line
invariant-loop-line g l = list_all (λ (line : ℕ). leads_to (graph_in (net_in l.plan)) l.piece (edge_at l.lines.items line)) (take l.line-index l.touched) ≡ true
