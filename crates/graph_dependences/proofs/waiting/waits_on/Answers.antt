use Rattle.std.proofs.Common.{◌≡◌, ◌≤◌, ap, arith, length}
use Rattle.graph_dependences.proofs.WaitLaws.{none_on}
use Rattle.graph_dependences.proofs.waiting.waits_on.Goals as goal

pub returns : goal.returns
returns c =
    let over = c.args.over in
    let count : length c.as_slice-two-items.result.now ≡ length over.graph.now.nodes.items = ap (λ ns. length ns) c.as_slice-two-items.ensures.value in
    let all : length over.graph.now.nodes.items ≤ c.loop-two.second = omega (arith, count, c.loop-two.invariant.second, c.loop-two-test.false) in
    none_on over.graph.now over.flow.now over.first over.second over.turned c.args.first c.loop-two.second all c.loop-two.invariant.none
