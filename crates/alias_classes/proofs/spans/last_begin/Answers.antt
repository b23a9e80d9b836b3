use Rattle.std.proofs.Common.{arith}
use Rattle.alias_classes.proofs.SpanLemmas.{read-next-place}
use Rattle.alias_classes.proofs.spans.last_begin.Goals as goal

pub loop-next-smaller : goal.loop-next-smaller
loop-next-smaller c =
    (read-next-place c.args.spans.now.begins.items c.args.spans.now.ends.items c.args.reaches.now.items c.args.last.now.items c.args.word c.loop-next.next c.index.result.now c.index-next.result.now c.requires.reaches c.requires.last c.requires.inside c.loop-next-test.true c.loop-next.invariant.within c.loop-next.invariant.most c.index.ensures c.if-index-word.true c.index-next.ensures).smaller

pub loop-next-preserved : goal.loop-next-preserved
loop-next-preserved c =
    let n = read-next-place c.args.spans.now.begins.items c.args.spans.now.ends.items c.args.reaches.now.items c.args.last.now.items c.args.word c.loop-next.next c.index.result.now c.index-next.result.now c.requires.reaches c.requires.last c.requires.inside c.loop-next-test.true c.loop-next.invariant.within c.loop-next.invariant.most c.index.ensures c.if-index-word.true c.index-next.ensures in
    let smaller = n.smaller in
    let within = c.loop-next.invariant.within in
    record { within = omega (arith, smaller, within); most = n.most }
