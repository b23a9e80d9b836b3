use Rattle.std.proofs.Common.{◌≡◌, ℕ, true, length, w32, ap, subst, sym, ◌∙◌, arith}
use Rattle.std.specs.List.{list_all}
use Rattle.std.proofs.lemmas.Int.{to_z-of_z}
use Rattle.op_board.specs.OperationNets.{needed}
use Rattle.op_board.specs.OperationTokens.{OperationTokens, stands_before}
use Rattle.operation_tables.specs.BoardView.{operation_net_on}
use Rattle.op_net.specs.FiringChanges.{given_on, gone_on}
use Rattle.operation_places.specs.PlacesView.{IsAheadBy, MakesUp, standing}
use Rattle.operation_places.specs.StandingChanges.{lines_moved}
use Rattle.operation_places.proofs.CountsKept.{keeps_more}
use Rattle.op_net.proofs.MadeUp.{ahead_left, ahead_less, makes_more}
use Rattle.operation_tables.proofs.NodeNames.{IsOperationAt, operation_at_node}
use Rattle.op_net.proofs.PlacesKept.{given_kept, moved_kept}
use Rattle.op_net.proofs.RowReads.{row_edge, row_edge_exists, taker_after, taker_within}
use Rattle.op_net.proofs.net_firing.give.Goals as goal

pub overflow_sub-first : goal.overflow_sub-first
overflow_sub-first g c =
    let x = operation_net_on c.args.board.now in
    let n : IsOperationAt x c.args.k c.args.piece c.args.i = operation_at_node x c.args.k c.args.piece c.args.i c.requires.node c.requires.name in
    let is = n.number in
    omega (arith, is)

pub overflow_add-first : goal.overflow_add-first
overflow_add-first g c =
    let x = operation_net_on c.args.board.now in
    let n : IsOperationAt x c.args.k c.args.piece c.args.i = operation_at_node x c.args.k c.args.piece c.args.i c.requires.node c.requires.name in
    let within = taker_within x c.args.piece c.args.i c.args.row.now c.requires.row c.requires.gives c.requires.piece c.args.k n.number in
    let few = c.args.board.now.own_tables.few in
    omega (arith, within, few)

pub give-requires : goal.give-requires
give-requires g c =
    let x = operation_net_on c.args.board.now in
    let k = c.args.k in
    let n : IsOperationAt x k c.args.piece c.args.i = operation_at_node x k c.args.piece c.args.i c.requires.node c.requires.name in
    let within = taker_within x c.args.piece c.args.i c.args.row.now c.requires.row c.requires.gives c.requires.piece k n.number in
    let after = taker_after x c.args.piece c.args.i c.args.row.now c.requires.row c.requires.gives c.requires.piece k n.number in
    let own = c.requires.places in
    let values = own.values in
    let node = c.requires.node in
    let ahead = ahead_less x k c.args.places.now 1 (length (needed x c.args.piece c.args.i)) c.requires.ahead in
    (omega arith, (omega (arith, node, values), (node, (own.marks, (ahead, (c.requires.empty, (within, λ asked. after)))))))

pub move_lines-requires : goal.move_lines-requires
move_lines-requires g c =
    let x = operation_net_on c.args.board.now in
    let k = c.args.k in
    let piece = c.args.piece in
    let i = c.args.i in
    let n : IsOperationAt x k piece i = operation_at_node x k piece i c.requires.node c.requires.name in
    let is = n.number in
    let places = given_kept c.args.board.now c.args.places.now c.give.new.self c.requires.places c.give.ensures.kept k _ c.give.ensures.standing in
    let stand = subst (λ (a : OperationTokens). list_all (stands_before x a piece i) (needed x piece i) ≡ true) (sym c.give.ensures.standing) c.requires.stand in
    let left = ahead_left x k c.args.places.now c.give.new.self 1 (length (needed x piece i)) c.requires.ahead c.give.ensures.counted in
    let ahead = subst (λ (j : ℕ). ∥ IsAheadBy x c.give.new.self j (length (needed x piece i)) ∥₁) is left in
    (omega arith, (omega (arith, is), (c.requires.piece, (c.requires.operation, (c.requires.row, (row_edge_exists c.args.board.now piece i c.args.row.now c.requires.row, (places, (ahead, stand))))))))

pub returns-clause-standing : goal.returns-clause-standing
returns-clause-standing g c =
    let x = operation_net_on c.args.board.now in
    let k = c.args.k in
    let piece = c.args.piece in
    let i = c.args.i in
    c.move_lines.ensures.standing
    ∙ ap (lines_moved x (standing c.give.new.self) piece i) (row_edge x piece i c.args.row.now c.requires.row)
    ∙ ap (λ (m : OperationTokens). gone_on x m piece i 0) c.give.ensures.standing
    ∙ ap (given_on x (standing c.args.places.now) k piece i) (to_z-of_z w32 c.args.z c.ranges.z)

pub returns-clause-counted : goal.returns-clause-counted
returns-clause-counted g c =
    let x = operation_net_on c.args.board.now in
    let k = c.args.k in
    let piece = c.args.piece in
    let i = c.args.i in
    let n : IsOperationAt x k piece i = operation_at_node x k piece i c.requires.node c.requires.name in
    let moved = subst (λ (j : ℕ). MakesUp x c.give.new.self c.move_lines.new.places j (length (needed x piece i))) (sym n.number) c.move_lines.ensures.counted in
    makes_more x k c.args.places.now c.give.new.self c.move_lines.new.places 1 (length (needed x piece i)) c.give.ensures.counted moved

pub returns-clause-kept : goal.returns-clause-kept
returns-clause-kept g c = keeps_more c.args.places.now c.give.new.self c.move_lines.new.places c.give.ensures.kept c.move_lines.ensures.kept

pub returns-clause-places : goal.returns-clause-places
returns-clause-places g c =
    let places = given_kept c.args.board.now c.args.places.now c.give.new.self c.requires.places c.give.ensures.kept c.args.k _ c.give.ensures.standing in
    moved_kept c.args.board.now c.give.new.self c.move_lines.new.places places c.move_lines.ensures.kept c.args.piece c.args.i c.args.row.now.edge (row_edge_exists c.args.board.now c.args.piece c.args.i c.args.row.now c.requires.row) c.move_lines.ensures.standing

pub returns-clause-edge : goal.returns-clause-edge
returns-clause-edge g c = row_edge (operation_net_on c.args.board.now) c.args.piece c.args.i c.args.row.now c.requires.row

pub returns-clause-exists : goal.returns-clause-exists
returns-clause-exists g c = row_edge_exists c.args.board.now c.args.piece c.args.i c.args.row.now c.requires.row
