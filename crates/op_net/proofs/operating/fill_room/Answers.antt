use Rattle.std.proofs.Common.{◌+◌, ◌-◌, ℕ, List, Some, length, subst, sym, ap, ◌∙◌, arith}
use Rattle.std.specs.List.{range_with_len}
use Rattle.net_board.specs.Tokens.{left_for}
use Rattle.net_board.proofs.ListPlaces.{length_slice_set}
use Rattle.net_board.specs.Nodes.{switches}
use Rattle.op_board.specs.OperationNets.{first_operation}
use Rattle.op_board.specs.OperationTokens.{OperationTokens}
use Rattle.operation_tables.specs.BoardView.{operation_net_on}
use Rattle.op_net.specs.PlaceSteps.{edge_left}
use Rattle.operation_places.specs.PlacesView.{IsAheadBy, IsCountedAhead, MakesUp, standing}
use Rattle.operation_places.specs.StandingChanges.{room_filled}
use Rattle.op_net.proofs.MadeUp.{leaves_ahead, leaves_end, leaves_next}
use Rattle.operation_places.proofs.CountsKept.{keeps_more, keeps_own}
use Rattle.op_net.proofs.FilledRoom.{clear_at, first_inside, left_same, room_left, row_at, row_next, row_none, switch_decided, switch_within, switches_row}
use Rattle.operation_places.proofs.FoldedLists.{fold_end, fold_next}
use Rattle.op_net.proofs.TakenOperands.{own_node}
use Rattle.op_net.proofs.operating.fill_room.Goals as goal

pub overflow_add-decision : goal.overflow_add-decision
overflow_add-decision g c =
    let below = own_node (operation_net_on c.args.board.now) c.args.piece c.args.i c.first.result c.requires.piece c.requires.operation c.first.ensures in
    let few = c.args.board.now.own_tables.few in
    record { fits = omega (arith, below, few) }

pub loop-switch-init : goal.loop-switch-init
loop-switch-init g c =
    let x = operation_net_on c.args.board.now in
    let m = standing c.args.places.now in
    let starts = ap (λ (n : ℕ). n + 1) c.first-from.ensures in
    let row = switches_row x c.args.piece c.args.i (c.first-from.result + 1) c.end-end.result (c.first.result + c.args.i) c.requires.piece c.requires.operation c.requires.decides starts c.end-end.ensures.end (ap (λ (n : ℕ). n + c.args.i) c.first.ensures) in
    record {
      filled = room_left x c.args.piece m c.args.edge (c.first-from.result + 1) (c.end-end.result - (c.first-from.result + 1)) row;
      clear = λ j low high. clear_at x c.args.piece m (c.first-from.result + 1) (c.end-end.result - (c.first-from.result + 1)) j row c.requires.clear low (omega (arith, low, high));
      edges = c.requires.places.edges;
      counted = λ rest ahead. subst (λ (row : List ℕ). IsCountedAhead x c.args.places.now (first_operation x c.args.piece + c.args.i) (length row + rest)) row ahead;
      kept = keeps_own c.args.places.now;
    }

pub overflow_add-decision-in-loop-switch : goal.overflow_add-decision-in-loop-switch
overflow_add-decision-in-loop-switch g c =
    let x = operation_net_on c.args.board.now in
    let below = switch_within x c.args.piece c.args.i (c.first-from.result + 1) c.end-end.result (c.first.result + c.args.i) c.requires.piece c.requires.operation c.requires.decides (ap (λ (n : ℕ). n + 1) c.first-from.ensures) c.end-end.ensures.end (ap (λ (n : ℕ). n + c.args.i) c.first.ensures) c.loop-switch.switch c.loop-switch.auto.switch c.loop-switch-test.true in
    let few = c.args.board.now.own_tables.few in
    record { fits = omega (arith, below, few) }

pub overflow_add-decision-in-loop-switch-2 : goal.overflow_add-decision-in-loop-switch-2
overflow_add-decision-in-loop-switch-2 g c =
    let x = operation_net_on c.args.board.now in
    let below = switch_within x c.args.piece c.args.i (c.first-from.result + 1) c.end-end.result (c.first.result + c.args.i) c.requires.piece c.requires.operation c.requires.decides (ap (λ (n : ℕ). n + 1) c.first-from.ensures) c.end-end.ensures.end (ap (λ (n : ℕ). n + c.args.i) c.first.ensures) c.loop-switch.switch c.loop-switch.auto.switch c.loop-switch-test.true in
    let few = c.args.board.now.own_tables.few in
    record { fits = omega (arith, below, few) }

pub overflow_add-from : goal.overflow_add-from
overflow_add-from g c =
    let x = operation_net_on c.args.board.now in
    let few = c.args.board.now.plan.board.own_tables.few in
    let some = first_inside x c.args.piece c.args.i c.requires.piece c.requires.operation in
    let is = c.first-from.ensures in
    record { fits = omega (arith, some, few, is) }

pub leave-requires : goal.leave-requires
leave-requires g c =
    let x = operation_net_on c.args.board.now in
    let starts = ap (λ (n : ℕ). n + 1) c.first-from.ensures in
    let is = ap (λ (n : ℕ). n + c.args.i) c.first.ensures in
    let within = c.end-end.ensures.within in
    let edges = c.loop-switch.invariant.edges in
    let low = c.loop-switch-test.true in
    let switch = c.loop-switch.switch in
    let end = c.end-end.result in (
      omega arith,
      (
        omega (arith, within, edges, low),
        (
          own_node x c.args.piece c.args.i c.first.result c.requires.piece c.requires.operation c.first.ensures,
          (
            c.loop-switch.invariant.kept.marks ∙ c.requires.places.marks,
            (
              subst (λ (f : ℕ). ∥ IsAheadBy x c.loop-switch.places (f + c.args.i) 1 ∥₁) (sym c.first.ensures) (leaves_ahead x (first_operation x c.args.piece + c.args.i) c.args.places.now c.loop-switch.places (length (switches x.net c.args.piece)) (length (range_with_len switch (end - switch))) 1 (length (range_with_len (switch + 1) (end - (switch + 1)))) c.requires.ahead c.loop-switch.invariant.counted (row_next switch end low)),
              (
                c.loop-switch.invariant.clear c.loop-switch.switch (omega arith) low,
                λ counted. switch_decided x c.args.piece c.args.i (c.first-from.result + 1) c.end-end.result (c.first.result + c.args.i) c.requires.piece c.requires.operation c.requires.decides starts c.end-end.ensures.end is c.loop-switch.switch c.loop-switch.auto.switch low,
              ),
            ),
          ),
        ),
      ),
    )

pub loop-switch-preserved : goal.loop-switch-preserved
loop-switch-preserved g c =
    let x = operation_net_on c.args.board.now in
    let old = standing c.loop-switch.places in
    let switch = c.loop-switch.switch in
    let end = c.end-end.result in
    let goal_is = room_filled x (standing c.args.places.now) c.args.piece c.args.edge in
    record {
      filled = fold_next (edge_left c.args.edge) old (standing c.leave.new.self) switch (range_with_len switch (end - switch)) (range_with_len (switch + 1) (end - (switch + 1))) goal_is (row_at switch end c.loop-switch-test.true) c.leave.ensures.standing c.loop-switch.invariant.filled;
      clear = λ j low high. ap (λ (m : OperationTokens). left_for m.tokens j) c.leave.ensures.standing ∙ left_same old c.args.edge switch j (λ e. omega (arith, e, low)) ∙ c.loop-switch.invariant.clear j (omega (arith, low)) high;
      edges = ap (λ (m : OperationTokens). length m.tokens.edges) c.leave.ensures.standing ∙ length_slice_set old.tokens.edges switch (Some c.args.edge) ∙ c.loop-switch.invariant.edges;
      counted = leaves_next x (first_operation x c.args.piece + c.args.i) c.args.places.now c.loop-switch.places c.leave.new.self (length (switches x.net c.args.piece)) (length (range_with_len switch (end - switch))) 1 (length (range_with_len (switch + 1) (end - (switch + 1)))) c.loop-switch.invariant.counted (row_next switch end c.loop-switch-test.true)
          (subst (λ (f : ℕ). MakesUp x c.loop-switch.places c.leave.new.self (f + c.args.i) 1) c.first.ensures c.leave.ensures.counted);
      kept = keeps_more c.args.places.now c.loop-switch.places c.leave.new.self c.loop-switch.invariant.kept c.leave.ensures.kept;
    }

pub returns-clause-standing : goal.returns-clause-standing
returns-clause-standing g c =
    let x = operation_net_on c.args.board.now in
    fold_end (edge_left c.args.edge) (standing c.loop-switch.places) (room_filled x (standing c.args.places.now) c.args.piece c.args.edge) (range_with_len c.loop-switch.switch (c.end-end.result - c.loop-switch.switch)) (row_none c.loop-switch.switch c.end-end.result c.loop-switch-test.false) c.loop-switch.invariant.filled

pub returns-clause-counted : goal.returns-clause-counted
returns-clause-counted g c =
    let x = operation_net_on c.args.board.now in
    let switch = c.loop-switch.switch in
    let end = c.end-end.result in
    leaves_end x (first_operation x c.args.piece + c.args.i) c.args.places.now c.loop-switch.places (length (switches x.net c.args.piece)) (length (range_with_len switch (end - switch))) c.loop-switch.invariant.counted (ap length (row_none switch end c.loop-switch-test.false))
