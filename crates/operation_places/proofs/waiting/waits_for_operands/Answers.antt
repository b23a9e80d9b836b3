use Rattle.std.proofs.Common.{◌≡◌, ◌+◌, not, take, sym, ap, ◌∙◌, arith}
use Rattle.operation_places.specs.RowWaits.{is_there}
use Rattle.operation_tables.specs.Waits.{failing, one_if}
use Rattle.operation_places.proofs.FailingLists.{one_at_most}
use Rattle.operation_places.proofs.RowWaits.{failing_next}
use Rattle.operation_places.proofs.waiting.waits_for_operands.Goals as goal

pub loop-operand-preserved : goal.loop-operand-preserved
loop-operand-preserved c =
    let test = is_there c.args.places.now.values.items c.args.first in
    let before = failing test (take c.loop-operand.operand-index c.args.operands.now) in
    let one : c.one_if-count.result ≡ one_if (not c.is_there.result) = c.one_if-count.ensures in
    let most = one_at_most (not c.is_there.result) in
    record {
      count = ap (λ n. n + c.one_if-count.result) c.loop-operand.invariant.count ∙ ap (λ n. before + n) (one ∙ ap (λ b. one_if (not b)) c.is_there.ensures) ∙ sym (failing_next test c.args.operands.now c.loop-operand.operand-index _ c.loop-operand-test.true);
      few = omega (arith, c.loop-operand.invariant.few, one, most);
    }
