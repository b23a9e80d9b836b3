use Rattle.std.proofs.Common.{◌≡◌, [], drop, map}
use Rattle.lane_layout.specs.Rows.{line_of, lines_after}
use Rattle.lane_layout.proofs.rows.rows_of.Given as goal

abbrev pub invariant-loop-piece : goal.invariant-loop-piece
invariant-loop-piece l = lines_after (map line_of l.stack.statements.items) l.stack.last (drop l.piece-index l.nodes.flow.now.pieces.items) ≡ lines_after [] 0 l.nodes.flow.now.pieces.items
