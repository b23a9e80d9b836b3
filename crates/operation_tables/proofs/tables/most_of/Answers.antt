use Rattle.std.proofs.Common.{◌≡◌, ◌<◌, ◌≤◌, ⊎_elim, Some, length, slice_get, vec_len, refl, sym, ap, ◌∙◌, arith, rules}
use Rattle.std.proofs.lemmas.Bool.{cases_lt}
use Rattle.std.proofs.lemmas.Option.{slice_get_read, slice_get_within}
use Rattle.operation_lists.specs.declared.operations.Operation.{Operation}
use Rattle.operation_tables.proofs.tables.most_of.Goals as goal

pub loop-i-preserved : goal.loop-i-preserved
loop-i-preserved c = record {
  each = λ i operation below is. ⊎_elim
      (λ (before : i < c.loop-i.i). let r = c.loop-i.invariant.each i operation before is in let most = c.max-most.ensures in grind (arith, r, most))
      (λ (past : c.loop-i.i ≤ i).
      let same : i ≡ c.loop-i.i = omega (arith, past, below) in
      let count : length c.args.operations.now.items ≡ vec_len c.args.operations.now = search rules in
      let test = c.loop-i-test.true in
      let end = c.len-i-end.ensures in
      let here : slice_get c.args.operations.now.items c.loop-i.i ≡ Some c.index.result.now = slice_get_read c.args.operations.now.items (length c.args.operations.now.items) c.loop-i.i c.index.result.now refl (omega (arith, count, test, end)) c.index.ensures in
      let found : Some c.index.result.now ≡ Some operation = sym here ∙ ap (slice_get c.args.operations.now.items) (sym same) ∙ is in
      let own : c.index.result.now ≡ operation = cc in
      let same_long : length c.index.result.now.operands.items ≡ length operation.operands.items = ap (λ (o : Operation). length o.operands.items) own in
      let read = ap length c.as_slice.ensures in
      let most = c.max-most.ensures in
      grind (arith, same, same_long, read, most))
      (cases_lt i c.loop-i.i);
  few =
      let count : length c.args.operations.now.items ≡ vec_len c.args.operations.now = search rules in
      let test = c.loop-i-test.true in
      let end = c.len-i-end.ensures in
      let here : slice_get c.args.operations.now.items c.loop-i.i ≡ Some c.index.result.now = slice_get_read c.args.operations.now.items (length c.args.operations.now.items) c.loop-i.i c.index.result.now refl (omega (arith, count, test, end)) c.index.ensures in
      let operations = c.requires.operations in
      let operands = c.requires.operands c.loop-i.i c.index.result.now here in
      let read = ap length c.as_slice.ensures in
      let before = c.loop-i.invariant.few in
      let most = c.max-most.ensures in
      grind (arith, count, test, end, operations, operands, read, before, most);
}

pub returns-clause-most : goal.returns-clause-most
returns-clause-most c = λ i operation is.
    let count : length c.args.operations.now.items ≡ vec_len c.args.operations.now = search rules in
    let within = slice_get_within c.args.operations.now.items i operation is in
    let past = c.loop-i-test.false in
    let end = c.len-i-end.ensures in
    c.loop-i.invariant.each i operation (omega (arith, count, within, past, end)) is
