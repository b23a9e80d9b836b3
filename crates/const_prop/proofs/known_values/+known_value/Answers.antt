use Rattle.std.proofs.Common.{◌<◌, ℤ, [], ◌∷◌, ◌++◌, length, take, Option, rules, sym, ap, ◌∙◌, arith}
use Rattle.std.proofs.lemmas.List.{take_more_set}
use Rattle.f77_tree.specs.KnownWith.{known_with}
use Rattle.const_prop.specs.Closed.{words_on}
use Rattle.const_prop.specs.Table.{knowns}
use Rattle.const_prop.proofs.Expressions.{known_with-more, known_with-Read, operator-known}
use Rattle.const_prop.proofs.known_values.+known_value.Goals as goal

pub loop-arg-preserved : goal.loop-arg-preserved
loop-arg-preserved g t c =
    let names = c.args.p.now.names in
    let words = words_on c.args.c.now (knowns c.args.rows.now []) c.args.edge in
    let kept = c.loop-arg.invariant in
    let items = c.as_slice-arg-items.result.now in
    let i = c.loop-arg.arg-index in
    let k = c.loop-arg.count in
    let operands = c.loop-arg.operands in
    let z = c.known_value.result in
    let test = c.loop-arg-test.true in
    let counted = kept.counted in
    let room : k < length operands = omega (arith, kept.room, kept.few, counted, test) in
    record {
      counted = omega (arith, counted);
      as_many = kept.as_many;
      few = kept.few;
      room = search rules;
      expressions = kept.expressions;
      values = take_more_set operands k z room ∙ ap (λ (x : Option ℤ). take k operands ++ x ∷ []) c.known_value.ensures ∙ known_with-more names words items i c.arg-item.result (take k operands) test c.arg-item.is kept.values;
    }

pub returns-in-Read : goal.returns-in-Read
returns-in-Read g t c =
    let names = c.args.p.now.names in
    let words = words_on c.args.c.now (knowns c.args.rows.now []) c.args.edge in
    c.known_read.ensures ∙ sym (known_with-Read names words c.in-Read.access) ∙ ap (known_with names words) (sym c.in-Read.is)

pub returns-after-loop-arg : goal.returns-after-loop-arg
returns-after-loop-arg g t c =
    let names = c.args.p.now.names in
    let words = words_on c.args.c.now (knowns c.args.rows.now []) c.args.edge in
    operator-known names words c.args.e.now c.in-Apply.op c.in-Apply.args c.as_slice-arg-items.result.now c.loop-arg.arg-index (take c.loop-arg.count c.loop-arg.operands) c.fold.result c.in-Apply.is c.as_slice-arg-items.ensures.items c.loop-arg-test.false c.loop-arg.invariant.values c.fold.ensures
