use Rattle.std.proofs.Common.{◌<◌, ◌≤◌, length, arith}
use Rattle.const_prop.proofs.EdgeSetLemmas.{IsLeast-found, Passed-block, IsPast-end}
use Rattle.const_prop.proofs.edge_set.EdgeSet.next_from.Goals as goal

pub returns-in-Some : goal.returns-in-Some
returns-in-Some c =
    let within : c.loop-block.block < length c.self.inside.blocks.items = omega arith in
    rw (← c.self.view_is)
    (IsLeast-found c.self.inside.blocks.items c.args.edge c.loop-block.block c.in-Some.place c.loop-block.below c.index.result.now within c.index.ensures c.loop-block.invariant.from c.loop-block.invariant.passed c.in-Some.ensures.within c.in-Some.ensures.next)

pub loop-block-preserved : goal.loop-block-preserved
loop-block-preserved c =
    let within : c.loop-block.block < length c.self.inside.blocks.items = omega arith in
    record {
      in_word = omega arith;
      from = omega (arith, c.loop-block.invariant.from, c.loop-block.invariant.in_word);
      passed = Passed-block c.self.inside.blocks.items c.args.edge c.loop-block.block c.loop-block.below c.index.result.now within c.index.ensures c.loop-block.invariant.passed c.in_default.ensures.next;
    }

pub returns : goal.returns
returns c =
    let end : length c.self.inside.blocks.items ≤ c.loop-block.block = omega arith in
    rw (← c.self.view_is) (IsPast-end c.self.inside.blocks.items c.args.edge c.loop-block.block c.loop-block.below end c.loop-block.invariant.passed)
