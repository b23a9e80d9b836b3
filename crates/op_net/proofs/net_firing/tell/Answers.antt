use Rattle.std.proofs.Common.{◌≡◌, ◌+◌, ℕ, true, length, subst, sym, ap, ◌∙◌, arith}
use Rattle.std.specs.List.{list_all}
use Rattle.op_board.specs.OperationNets.{first_operation, needed}
use Rattle.op_board.specs.OperationTokens.{OperationTokens, stands_before}
use Rattle.operation_tables.specs.BoardView.{operation_net_on}
use Rattle.op_net.specs.FiringChanges.{room_left}
use Rattle.operation_tables.specs.OperationRows.{room_of}
use Rattle.operation_places.specs.PlacesView.{standing}
use Rattle.operation_places.specs.StandingChanges.{lines_moved}
use Rattle.operation_places.proofs.CountsKept.{keeps_more}
use Rattle.op_net.proofs.MadeUp.{ahead_left, ahead_less, makes_more}
use Rattle.op_net.proofs.PlacesKept.{moved_kept}
use Rattle.op_net.proofs.net_firing.tell.Goals as goal

pub leave_room-requires : goal.leave_room-requires
leave_room-requires g c =
    let x = operation_net_on c.args.board.now in
    let piece = c.args.piece in
    let i = c.args.i in
    let ahead = ahead_less x (first_operation x piece + i) c.args.places.now (room_of x piece i) (length (needed x piece i)) c.requires.ahead in
    (omega arith, (c.requires.piece, (c.requires.operation, (c.requires.row, (c.chosen_edge-edge.ensures.exists, (c.requires.places, (c.requires.room, ahead)))))))

pub move_lines-requires : goal.move_lines-requires
move_lines-requires g c =
    let x = operation_net_on c.args.board.now in
    let piece = c.args.piece in
    let i = c.args.i in
    let ahead = ahead_left x (first_operation x piece + i) c.args.places.now c.leave_room.new.places (room_of x piece i) (length (needed x piece i)) c.requires.ahead c.leave_room.ensures.counted in
    let stand = subst (λ (a : OperationTokens). list_all (stands_before x a piece i) (needed x piece i) ≡ true) (sym c.leave_room.ensures.standing) c.requires.stand in
    (omega arith, (c.first-first.ensures, (c.requires.piece, (c.requires.operation, (c.requires.row, (c.chosen_edge-edge.ensures.exists, (c.leave_room.ensures.places, (ahead, stand))))))))

pub returns-clause-standing : goal.returns-clause-standing
returns-clause-standing g c =
    let x = operation_net_on c.args.board.now in
    let m = standing c.args.places.now in
    let piece = c.args.piece in
    let i = c.args.i in
    c.move_lines.ensures.standing
    ∙ ap (λ (n : OperationTokens). lines_moved x n piece i c.chosen_edge-edge.result) c.leave_room.ensures.standing
    ∙ ap (λ (e : ℕ). lines_moved x (room_left x m piece i e) piece i e) c.chosen_edge-edge.ensures.edge

pub returns-clause-counted : goal.returns-clause-counted
returns-clause-counted g c =
    let x = operation_net_on c.args.board.now in
    makes_more x (first_operation x c.args.piece + c.args.i) c.args.places.now c.leave_room.new.places c.move_lines.new.places (room_of x c.args.piece c.args.i) (length (needed x c.args.piece c.args.i)) c.leave_room.ensures.counted c.move_lines.ensures.counted

pub returns-clause-kept : goal.returns-clause-kept
returns-clause-kept g c = keeps_more c.args.places.now c.leave_room.new.places c.move_lines.new.places c.leave_room.ensures.kept c.move_lines.ensures.kept

pub returns-clause-places : goal.returns-clause-places
returns-clause-places g c = moved_kept c.args.board.now c.leave_room.new.places c.move_lines.new.places c.leave_room.ensures.places c.move_lines.ensures.kept c.args.piece c.args.i c.chosen_edge-edge.result c.chosen_edge-edge.ensures.exists c.move_lines.ensures.standing
