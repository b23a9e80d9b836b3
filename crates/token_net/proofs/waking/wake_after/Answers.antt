use Rattle.std.proofs.Common.{arith}
use Rattle.token_net.proofs.WakeLoops.{row_more, row_all}
use Rattle.token_net.proofs.waking.wake_after.Goals as goal

pub loop-k-preserved : goal.loop-k-preserved
loop-k-preserved c = record {
  has = row_more c.loop-k.woken.items c.wake.new.woken.items c.args.first c.loop-k.k c.wake.ensures.kept c.loop-k.invariant.has c.wake.ensures.has;
  kept = λ j m. c.wake.ensures.kept j (c.loop-k.invariant.kept j m);
  nodes = λ n all within. c.wake.ensures.nodes n (c.loop-k.invariant.nodes n all within) (omega (arith, within, c.loop-k-test.true));
  few = omega (arith, c.wake.ensures.few, c.loop-k.invariant.few, c.loop-k.auto.k);
  capacity = omega (arith, c.wake.ensures.capacity, c.loop-k.invariant.capacity);
}

pub returns-clause-has : goal.returns-clause-has
returns-clause-has c = row_all c.loop-k.woken.items c.args.first c.args.end c.loop-k.k c.requires.some c.loop-k-test.false c.loop-k.invariant.has
