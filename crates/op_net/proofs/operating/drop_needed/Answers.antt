use Rattle.std.proofs.Common.{◌≡◌, ◌<◌, ◌+◌, ℕ, None, get_or, length, map, drop, sym, ap, ◌∙◌, subst, arith}
use Rattle.op_board.specs.OperationNets.{first_operation, needed}
use Rattle.operation_tables.specs.BoardView.{operation_net_on}
use Rattle.operation_places.specs.PlacesView.{standing}
use Rattle.operation_tables.specs.declared.hops.Hop.{Hop}
use Rattle.op_net.proofs.MadeUp.{leaves_all, leaves_end}
use Rattle.operation_places.proofs.CountsKept.{keeps_more, keeps_own}
use Rattle.op_net.proofs.RowFacts.{row_lines}
use Rattle.op_net.proofs.WalkedRows as walked
use Rattle.operation_places.proofs.FoldedLists.{fold_end, left_none}
use Rattle.op_net.specs.PlaceSteps.{line_dropped}
use Rattle.operation_places.specs.StandingChanges.{lines_dropped}
use Rattle.op_net.proofs.HopFacts.{before_here}
use Rattle.op_net.proofs.MovedLines.{needed_dropped}
use Rattle.op_net.proofs.TakenOperands.{own_node}
use Rattle.op_net.proofs.operating.drop_needed.Goals as goal

pub overflow_add-k : goal.overflow_add-k
overflow_add-k g c =
    let below = own_node (operation_net_on c.args.board.now) c.args.piece c.args.i c.first.result c.requires.piece c.requires.operation c.first.ensures in
    let few = c.args.board.now.own_tables.few in
    record { fits = omega (arith, below, few) }

pub loop-hop-init : goal.loop-hop-init
loop-hop-init g c = record {
  dropped = needed_dropped (operation_net_on c.args.board.now) c.args.piece c.args.i (standing c.args.places.now);
  stand = c.requires.stand;
  lines = c.requires.places.lines;
  passed = c.requires.places.passed;
  counted = leaves_all (operation_net_on c.args.board.now) (first_operation (operation_net_on c.args.board.now) c.args.piece + c.args.i) c.args.places.now (length (needed (operation_net_on c.args.board.now) c.args.piece c.args.i));
  kept = keeps_own c.args.places.now;
}

pub take_off-requires : goal.take_off-requires
take_off-requires g c =
    let x = operation_net_on c.args.board.now in
    let items = c.deref-hop-items.result.now in
    let j = c.loop-hop.hop-index in
    let seen : map (λ (hop : Hop). hop.line) items ≡ needed x c.args.piece c.args.i = ap (map (λ (hop : Hop). hop.line)) c.deref-hop-items.ensures.value ∙ row_lines x c.args.piece c.args.i c.row.result.now c.row.ensures in
    let lines = c.loop-hop.invariant.lines in
    let passed = c.loop-hop.invariant.passed in
    let m = standing c.loop-hop.places in
    let low = c.loop-hop-test.true in
    let hop : Hop = get_or items j (record { line = 0; before = 0; next = None }) in
    let exists = walked.line_exists x c.args.piece c.args.i items j (record { line = 0; before = 0; next = None }) seen low in
    let needs = walked.line_needs x c.args.piece c.args.i items j (record { line = 0; before = 0; next = None }) seen low in
    let stands = walked.line_stands x c.args.piece c.args.i items j (record { line = 0; before = 0; next = None }) seen low m c.loop-hop.invariant.stand in (
      omega arith,
      (
        exists,
        (
          subst (λ (n : ℕ). hop.line < n) (sym lines) exists,
          (
            subst (λ (n : ℕ). hop.line < n) (sym passed) exists,
            (
              c.loop-hop.invariant.kept.marks ∙ c.requires.places.marks,
              (
                walked.line_ahead x c.args.piece c.args.i items j (record { line = 0; before = 0; next = None }) seen c.loop-hop-test.true c.args.places.now c.loop-hop.places c.first.result c.first.ensures c.loop-hop.invariant.counted c.requires.ahead,
                (λ counted. before_here x c.args.board.now.plan.facts c.args.piece c.args.i hop.line m c.requires.piece c.requires.operation needs stands c.first.result c.first.ensures),
              ),
            ),
          ),
        ),
      ),
    )

pub loop-hop-preserved : goal.loop-hop-preserved
loop-hop-preserved g c =
    let x = operation_net_on c.args.board.now in
    let items = c.deref-hop-items.result.now in
    let j = c.loop-hop.hop-index in
    let seen : map (λ (hop : Hop). hop.line) items ≡ needed x c.args.piece c.args.i = ap (map (λ (hop : Hop). hop.line)) c.deref-hop-items.ensures.value ∙ row_lines x c.args.piece c.args.i c.row.result.now c.row.ensures in
    let r = walked.dropped_next x c.args.piece c.args.i items j _ seen c.loop-hop-test.true (standing c.loop-hop.places) (standing c.take_off.new.self) (lines_dropped x (standing c.args.places.now) c.args.piece c.args.i) c.take_off.ensures.standing c.loop-hop.invariant.dropped c.loop-hop.invariant.stand in
    record {
      dropped = r.moved;
      stand = r.stand;
      lines = r.long ∙ c.loop-hop.invariant.lines;
      passed = r.passed ∙ c.loop-hop.invariant.passed;
      counted = walked.line_leaves x c.args.piece c.args.i items j (record { line = 0; before = 0; next = None }) seen c.loop-hop-test.true c.args.places.now c.loop-hop.places c.first.result c.first.ensures c.loop-hop.invariant.counted c.take_off.new.self c.take_off.ensures.counted;
      kept = keeps_more c.args.places.now c.loop-hop.places c.take_off.new.self c.loop-hop.invariant.kept c.take_off.ensures.kept;
    }

pub returns-clause-standing : goal.returns-clause-standing
returns-clause-standing g c =
    let x = operation_net_on c.args.board.now in
    let items = c.deref-hop-items.result.now in
    let j = c.loop-hop.hop-index in
    let seen : map (λ (hop : Hop). hop.line) items ≡ needed x c.args.piece c.args.i = ap (map (λ (hop : Hop). hop.line)) c.deref-hop-items.ensures.value ∙ row_lines x c.args.piece c.args.i c.row.result.now c.row.ensures in
    fold_end line_dropped (standing c.loop-hop.places) (lines_dropped x (standing c.args.places.now) c.args.piece c.args.i) (drop j (needed x c.args.piece c.args.i)) (left_none (λ (hop : Hop). hop.line) items (needed x c.args.piece c.args.i) j seen c.loop-hop-test.false) c.loop-hop.invariant.dropped

pub returns-clause-counted : goal.returns-clause-counted
returns-clause-counted g c =
    let x = operation_net_on c.args.board.now in
    let items = c.deref-hop-items.result.now in
    let j = c.loop-hop.hop-index in
    let seen : map (λ (hop : Hop). hop.line) items ≡ needed x c.args.piece c.args.i = ap (map (λ (hop : Hop). hop.line)) c.deref-hop-items.ensures.value ∙ row_lines x c.args.piece c.args.i c.row.result.now c.row.ensures in
    leaves_end x (first_operation x c.args.piece + c.args.i) c.args.places.now c.loop-hop.places (length (needed x c.args.piece c.args.i)) (length (drop j (needed x c.args.piece c.args.i))) c.loop-hop.invariant.counted
    (ap length (left_none (λ (hop : Hop). hop.line) items (needed x c.args.piece c.args.i) j seen c.loop-hop-test.false))
