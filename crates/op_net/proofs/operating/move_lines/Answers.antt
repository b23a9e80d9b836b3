use Rattle.std.proofs.Common.{◌≡◌, ◌+◌, None, length, map, drop, ap, ◌∙◌, arith}
use Rattle.op_board.specs.OperationNets.{first_operation, needed}
use Rattle.operation_tables.specs.BoardView.{operation_net_on}
use Rattle.operation_places.specs.PlacesView.{standing}
use Rattle.operation_tables.specs.declared.hops.Hop.{Hop}
use Rattle.op_net.proofs.MadeUp.{leaves_all, leaves_end}
use Rattle.operation_places.proofs.CountsKept.{keeps_more, keeps_own}
use Rattle.op_net.proofs.RowFacts.{row_lines}
use Rattle.op_net.proofs.WalkedRows as walked
use Rattle.operation_places.proofs.FoldedLists.{fold_end, left_none}
use Rattle.op_net.specs.PlaceSteps.{line_moved}
use Rattle.operation_places.specs.StandingChanges.{lines_moved}
use Rattle.op_net.proofs.MovedLines.{needed_moved}
use Rattle.op_net.proofs.operating.move_lines.Goals as goal

pub loop-hop-init : goal.loop-hop-init
loop-hop-init g c = record {
  moved = needed_moved (operation_net_on c.args.board.now) c.args.piece c.args.i c.args.edge (standing c.args.places.now) c.requires.places.lines c.requires.stand;
  stand = c.requires.stand;
  lines = c.requires.places.lines;
  passed = c.requires.places.passed;
  counted = leaves_all (operation_net_on c.args.board.now) (first_operation (operation_net_on c.args.board.now) c.args.piece + c.args.i) c.args.places.now (length (needed (operation_net_on c.args.board.now) c.args.piece c.args.i));
  kept = keeps_own c.args.places.now;
}

pub move_line-requires : goal.move_line-requires
move_line-requires g c =
    let x = operation_net_on c.args.board.now in
    let items = c.deref-hop-items.result.now in
    let j = c.loop-hop.hop-index in
    let seen : map (λ (hop : Hop). hop.line) items ≡ needed x c.args.piece c.args.i = ap (map (λ (hop : Hop). hop.line)) c.deref-hop-items.ensures.value ∙ row_lines x c.args.piece c.args.i c.args.row.now c.requires.row in (
      omega arith,
      (
        c.requires.piece,
        (
          c.requires.operation,
          (
            c.requires.first,
            (
              c.requires.edge,
              (
                c.loop-hop.invariant.lines,
                (
                  c.loop-hop.invariant.passed,
                  (
                    c.loop-hop.invariant.kept.marks ∙ c.requires.places.marks,
                    (
                      walked.line_ahead x c.args.piece c.args.i items j (record { line = 0; before = 0; next = None }) seen c.loop-hop-test.true c.args.places.now c.loop-hop.places c.args.first c.requires.first c.loop-hop.invariant.counted c.requires.ahead,
                      (
                        walked.hop_at x c.args.piece c.args.i c.args.row.now items j _ c.requires.row c.deref-hop-items.ensures.value c.loop-hop-test.true,
                        (
                          walked.line_needs x c.args.piece c.args.i items j _ seen c.loop-hop-test.true,
                          walked.line_stands x c.args.piece c.args.i items j _ seen c.loop-hop-test.true (standing c.loop-hop.places) c.loop-hop.invariant.stand,
                        ),
                      ),
                    ),
                  ),
                ),
              ),
            ),
          ),
        ),
      ),
    )

pub loop-hop-preserved : goal.loop-hop-preserved
loop-hop-preserved g c =
    let x = operation_net_on c.args.board.now in
    let items = c.deref-hop-items.result.now in
    let j = c.loop-hop.hop-index in
    let seen : map (λ (hop : Hop). hop.line) items ≡ needed x c.args.piece c.args.i = ap (map (λ (hop : Hop). hop.line)) c.deref-hop-items.ensures.value ∙ row_lines x c.args.piece c.args.i c.args.row.now c.requires.row in
    let r = walked.moved_next x c.args.piece c.args.i items j _ seen c.loop-hop-test.true c.args.edge (standing c.loop-hop.places) (standing c.move_line.new.places) (lines_moved x (standing c.args.places.now) c.args.piece c.args.i c.args.edge) c.move_line.ensures.standing c.loop-hop.invariant.moved c.loop-hop.invariant.stand in
    record {
      moved = r.moved;
      stand = r.stand;
      lines = r.long ∙ c.loop-hop.invariant.lines;
      passed = r.passed ∙ c.loop-hop.invariant.passed;
      counted = walked.line_leaves x c.args.piece c.args.i items j (record { line = 0; before = 0; next = None }) seen c.loop-hop-test.true c.args.places.now c.loop-hop.places c.args.first c.requires.first c.loop-hop.invariant.counted c.move_line.new.places c.move_line.ensures.counted;
      kept = keeps_more c.args.places.now c.loop-hop.places c.move_line.new.places c.loop-hop.invariant.kept c.move_line.ensures.kept;
    }

pub returns-clause-standing : goal.returns-clause-standing
returns-clause-standing g c =
    let x = operation_net_on c.args.board.now in
    let items = c.deref-hop-items.result.now in
    let j = c.loop-hop.hop-index in
    let seen : map (λ (hop : Hop). hop.line) items ≡ needed x c.args.piece c.args.i = ap (map (λ (hop : Hop). hop.line)) c.deref-hop-items.ensures.value ∙ row_lines x c.args.piece c.args.i c.args.row.now c.requires.row in
    fold_end (line_moved x c.args.piece c.args.i c.args.edge) (standing c.loop-hop.places) (lines_moved x (standing c.args.places.now) c.args.piece c.args.i c.args.edge) (drop j (needed x c.args.piece c.args.i)) (left_none (λ (hop : Hop). hop.line) items (needed x c.args.piece c.args.i) j seen c.loop-hop-test.false) c.loop-hop.invariant.moved

pub returns-clause-counted : goal.returns-clause-counted
returns-clause-counted g c =
    let x = operation_net_on c.args.board.now in
    let items = c.deref-hop-items.result.now in
    let j = c.loop-hop.hop-index in
    let seen : map (λ (hop : Hop). hop.line) items ≡ needed x c.args.piece c.args.i = ap (map (λ (hop : Hop). hop.line)) c.deref-hop-items.ensures.value ∙ row_lines x c.args.piece c.args.i c.args.row.now c.requires.row in
    leaves_end x (first_operation x c.args.piece + c.args.i) c.args.places.now c.loop-hop.places (length (needed x c.args.piece c.args.i)) (length (drop j (needed x c.args.piece c.args.i))) c.loop-hop.invariant.counted
    (ap length (left_none (λ (hop : Hop). hop.line) items (needed x c.args.piece c.args.i) j seen c.loop-hop-test.false))
