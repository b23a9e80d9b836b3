use Rattle.std.proofs.Common.{◌≡◌, map}
use Rattle.std.specs.List.{range_with_len}
use Rattle.net_board.specs.Nodes.{touched}
use Rattle.net_tables.specs.PartsView.{net_in}
use Rattle.net_tables.proofs.tables.all_touched.Given as goal

abbrev pub invariant-loop-piece : goal.invariant-loop-piece
invariant-loop-piece g l = l.all.items ≡ map (touched (net_in l.plan)) (range_with_len 0 l.piece)
