use Rattle.std.proofs.Common.{◌<◌, ◌∙◌, ℕ, length, map, slice_index, arith, rules}
use Rattle.op_board.specs.OperationLists.{takes_by}
use Rattle.operation_lists.specs.declared.operations.Operation.{Operation}
use Rattle.operation_lists.specs.Seen.{operand_seen, operation_seen}
use Rattle.operation_tables.proofs.TakerLemmas.{operation_seen_at, takers_more}
use Rattle.operation_tables.proofs.takers.value_takers.Goals as goal

pub take_values-requires : goal.take_values-requires
take_values-requires c =
    let items = c.args.operations.now.items in
    let i = c.loop-i.i in
    let op : Operation = c.index.result.now in
    let low : i < length items = search rules in
    let inside : (number : ℕ) → 0 < takes_by (map operand_seen op.operands.items) number → number < length c.loop-i.takers.items = λ number some.
    let before = c.requires.earlier i number (operation_seen op) (operation_seen_at items i op low c.index.ensures) some in
    let all = c.loop-i.invariant.all in
    omega (arith, before, low, all)
    in
    inside

pub loop-i-preserved : goal.loop-i-preserved
loop-i-preserved c =
    let items = c.args.operations.now.items in
    let i = c.loop-i.i in
    let op : Operation = c.index.result.now in
    let low : i < length items = search rules in
    record {
      all = c.take_values.ensures.all ∙ c.loop-i.invariant.all;
      takers = takers_more items i op low c.index.ensures (λ n. slice_index c.loop-i.takers.items n) (λ n. slice_index c.take_values.new.takers.items n) c.loop-i.invariant.takers c.take_values.ensures.takers;
    }
