use Rattle.alias_classes.specs.Kept.{table_of}
use Rattle.alias_classes.proofs.Rows.{read_needs, apply_needs, needs-next, needs-all}
use Rattle.alias_classes.proofs.needs.+need.Goals as goal

pub expr_need-returns-in-Read : goal.expr_need-returns-in-Read
expr_need-returns-in-Read g t c = λ n.
    let same = read_needs (table_of c.args.p.now c.args.words.now.numbers.items c.args.words.now.count) c.args.e.now c.in-Read.access n c.in-Read.is in
    (λ is. same.1 ((c.access_need.ensures n).0 is), λ needs. (c.access_need.ensures n).1 (same.0 needs))

pub expr_need-returns-in-Apply : goal.expr_need-returns-in-Apply
expr_need-returns-in-Apply g t c = λ n.
    let same = apply_needs (table_of c.args.p.now c.args.words.now.numbers.items c.args.words.now.count) c.args.e.now c.in-Apply.op c.in-Apply.args n c.in-Apply.is in
    (λ is. same.1 ((c.all_need.ensures n).0 is), λ needs. (c.all_need.ensures n).1 (same.0 needs))

pub all_need-loop-e-preserved : goal.all_need-loop-e-preserved
all_need-loop-e-preserved g t c = needs-next (table_of c.args.p.now c.args.words.now.numbers.items c.args.words.now.count) c.as_slice-e-items.result.now c.loop-e.e-index c.e-item.result c.loop-e.set c.expr_need.result c.union-set.result c.loop-e-test.true c.e-item.is c.loop-e.invariant c.expr_need.ensures c.union-set.ensures

pub all_need-returns : goal.all_need-returns
all_need-returns g t c = needs-all (table_of c.args.p.now c.args.words.now.numbers.items c.args.words.now.count) c.as_slice-e-items.result.now c.args.es.now c.loop-e.e-index c.loop-e.set c.loop-e-test.false c.as_slice-e-items.ensures.items c.loop-e.invariant
