use Rattle.std.proofs.Common.{◌≡◌, length, subst, arith}
use Rattle.alias_classes.specs.Spans.{Holds}
use Rattle.alias_classes.specs.Walk.{key_of, IsWalked}
use Rattle.alias_classes.proofs.walk.walk_names.Goals as goal

pub returns-clause-walked : goal.returns-clause-walked
returns-clause-walked c =
    let spans = c.args.spans.now in
    let marks = c.args.marks.now in
    let all : c.loop-k.k ≡ length spans.begins.items = omega (arith, c.loop-k-test.false, c.loop-k.auto.k-end, c.len-k-end.ensures) in
    subst (λ n. IsWalked (Holds spans.begins.items spans.ends.items) (key_of marks.words marks.forth.items marks.back.items) n 0 c.loop-k.walk.numbers.items c.loop-k.walk.keys.keys) all c.loop-k.invariant.walked
