use Rattle.std.proofs.Common.{◌≡◌, ◌≤◌, ◌+◌, ap, arith, length}
use Rattle.graph_dependences.specs.Waiting.{WaitsOn}
use Rattle.graph_dependences.proofs.WaitLaws.{none_for, none_more}
use Rattle.graph_dependences.proofs.waiting.waits_for.Goals as goal

pub loop-one-preserved : goal.loop-one-preserved
loop-one-preserved c =
    let over = c.args.over in
    record {
      first = ap (λ n. n + 1) c.loop-one.invariant.first;
      none = none_more (WaitsOn over.graph.now over.flow.now over.first over.second over.turned) c.loop-one.first c.loop-one.invariant.none (λ h.
          let told = c.in_ok-waits_on.ensures.1 h in
          let not_so = c.if-branch.false in
          cc);
    }

pub returns : goal.returns
returns c =
    let over = c.args.over in
    let count : length c.as_slice-one-items.result.now ≡ length over.graph.now.nodes.items = ap (λ ns. length ns) c.as_slice-one-items.ensures.value in
    let all : length over.graph.now.nodes.items ≤ c.loop-one.first = omega (arith, count, c.loop-one.invariant.first, c.loop-one-test.false) in
    none_for over.graph.now over.flow.now over.first over.second over.turned c.loop-one.first all c.loop-one.invariant.none
