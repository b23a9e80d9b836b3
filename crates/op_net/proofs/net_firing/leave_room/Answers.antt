use Rattle.std.proofs.Common.{◌≡◌, ◌+◌, ℕ, true, false, subst, sym, ◌∙◌, arith}
use Rattle.op_board.specs.Operations.{is_decision}
use Rattle.op_board.specs.OperationNets.{first_operation, operation_at}
use Rattle.operation_tables.specs.BoardView.{operation_net_on}
use Rattle.operation_tables.specs.OperationRows.{room_of}
use Rattle.operation_places.specs.PlacesView.{IsAheadBy, MakesUp, standing}
use Rattle.operation_places.proofs.CountsKept.{keeps_own}
use Rattle.op_net.proofs.FiringParts.{left_if, left_unless, room_clear}
use Rattle.op_net.proofs.PlacesKept.{filled_kept}
use Rattle.op_net.proofs.RowReads.{row_decides}
use Rattle.op_net.proofs.OperatedNets.{none_made, room_none, room_some}
use Rattle.op_net.proofs.net_firing.leave_room.Goals as goal

pub fill_room-requires : goal.fill_room-requires
fill_room-requires g c =
    let x = operation_net_on c.args.board.now in
    let m = standing c.args.places.now in
    let piece = c.args.piece in
    let i = c.args.i in
    let decides : is_decision (operation_at x piece i).work ≡ true = sym (row_decides x piece i c.args.row.now c.requires.row) ∙ c.if-row.true in
    let ahead = subst (λ (n : ℕ). ∥ IsAheadBy x c.args.places.now (first_operation x piece + i) n ∥₁) (room_some x piece i decides) c.requires.ahead in
    (omega arith, (c.requires.piece, (c.requires.operation, (decides, (c.requires.edge, (c.requires.places, (ahead, room_clear x m piece (operation_at x piece i).work c.requires.room decides)))))))

pub returns-then-row-clause-standing : goal.returns-then-row-clause-standing
returns-then-row-clause-standing g c =
    let x = operation_net_on c.args.board.now in
    let m = standing c.args.places.now in
    let piece = c.args.piece in
    let i = c.args.i in
    let decides : is_decision (operation_at x piece i).work ≡ true = sym (row_decides x piece i c.args.row.now c.requires.row) ∙ c.if-row.true in
    c.fill_room.ensures.standing ∙ left_if x m piece i c.args.edge decides

pub returns-then-row-clause-counted : goal.returns-then-row-clause-counted
returns-then-row-clause-counted g c =
    let x = operation_net_on c.args.board.now in
    let piece = c.args.piece in
    let i = c.args.i in
    let decides : is_decision (operation_at x piece i).work ≡ true = sym (row_decides x piece i c.args.row.now c.requires.row) ∙ c.if-row.true in
    subst (λ (n : ℕ). MakesUp x c.args.places.now c.fill_room.new.places (first_operation x piece + i) n) (sym (room_some x piece i decides)) c.fill_room.ensures.counted

pub returns-then-row-clause-places : goal.returns-then-row-clause-places
returns-then-row-clause-places g c = filled_kept c.args.board.now c.args.places.now c.fill_room.new.places c.requires.places c.fill_room.ensures.kept c.args.piece c.args.edge c.requires.edge c.fill_room.ensures.standing

pub returns-else-row-clause-standing : goal.returns-else-row-clause-standing
returns-else-row-clause-standing g c =
    let x = operation_net_on c.args.board.now in
    let m = standing c.args.places.now in
    let piece = c.args.piece in
    let i = c.args.i in
    let decides : is_decision (operation_at x piece i).work ≡ false = sym (row_decides x piece i c.args.row.now c.requires.row) ∙ c.if-row.false in
    left_unless x m piece i c.args.edge decides

pub returns-else-row-clause-counted : goal.returns-else-row-clause-counted
returns-else-row-clause-counted g c =
    let x = operation_net_on c.args.board.now in
    let piece = c.args.piece in
    let i = c.args.i in
    let decides : is_decision (operation_at x piece i).work ≡ false = sym (row_decides x piece i c.args.row.now c.requires.row) ∙ c.if-row.false in
    none_made x c.args.places.now (first_operation x piece + i) (room_of x piece i) (room_none x piece i decides)

pub returns-else-row-clause-kept : goal.returns-else-row-clause-kept
returns-else-row-clause-kept g c = keeps_own c.args.places.now
