use Rattle.std.proofs.Common.{◌+◌, [], take, sym, ap, ◌∙◌, arith}
use Rattle.operation_tables.proofs.RowOperands.{others, others_next}
use Rattle.operation_tables.proofs.rows.values_of_others.Goals as goal

pub overflow_add-count : goal.overflow_add-count
overflow_add-count c =
    let few = c.loop-operand.invariant.few in
    let low = c.loop-operand-test.true in
    let end = c.loop-operand.auto.operand-index-end in
    let one = c.one_if_value-count.ensures.few in
    record { fits = omega (arith, few, low, one) }

pub loop-operand-preserved : goal.loop-operand-preserved
loop-operand-preserved c =
    let items = c.args.operands.now in
    let j = c.loop-operand.operand-index in
    let few = c.loop-operand.invariant.few in
    record {
      count = λ x piece. ap (λ n. n + c.one_if_value-count.result) (c.loop-operand.invariant.count x piece)
          ∙ ap (λ n. others x piece (take j items) + n) (c.one_if_value-count.ensures.count x piece)
          ∙ sym (others_next x piece items j _ c.loop-operand-test.true);
      few = let one = c.one_if_value-count.ensures.few in omega (arith, few, one);
    }
