use Rattle.std.proofs.Common.{◌≡◌, ◌-◌, length}
use Rattle.net_board.specs.Nodes.{first_node}
use Rattle.net_board.specs.TokenEdges.{AreEdges}
use Rattle.net_board.specs.Tokens.{led_from, with_all}
use Rattle.net_tables.specs.LookupView.{net_on}
use Rattle.op_board.specs.WholePieces.{lines_moved_at}
use Rattle.operation_places.proofs.PieceLines.{led, left}
use Rattle.operation_places.proofs.piece_lines.lead_all.Given as goal

abbrev pub invariant-loop-k : goal.invariant-loop-k
invariant-loop-k g l =
    let net = net_on l.board in
    record {
      lines : led net l.piece l.edge l.lines.items (left net l.piece l.edge (l.k - first_node net l.piece)) ≡ with_all l.fn.lines.items (lines_moved_at net l.piece) (led_from net l.edge);
      all : length l.lines.items ≡ length l.fn.lines.items;
      stand : AreEdges net l.fn.lines.items → AreEdges net l.lines.items;
    }
