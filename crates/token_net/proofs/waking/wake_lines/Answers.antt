use Rattle.std.proofs.Common.{arith}
use Rattle.net_tables.specs.LookupView.{net_on}
use Rattle.token_net.proofs.WakeLoops.{lines_more, lines_all}
use Rattle.token_net.proofs.waking.wake_lines.Goals as goal

pub loop-line-preserved : goal.loop-line-preserved
loop-line-preserved g c = record {
  has = lines_more (net_on c.args.board.now) c.args.lines.now.items c.args.moved.now c.loop-line.woken.items c.wake_before.new.woken.items c.loop-line.line-index c.wake_before.ensures.kept c.loop-line.invariant.has c.wake_before.ensures.has;
  kept = λ j m. c.wake_before.ensures.kept j (c.loop-line.invariant.kept j m);
  nodes = c.wake_before.ensures.nodes;
  few = omega (arith, c.wake_before.ensures.few, c.loop-line.invariant.few);
  capacity = omega (arith, c.wake_before.ensures.capacity, c.loop-line.invariant.capacity);
}

pub returns-clause-has : goal.returns-clause-has
returns-clause-has g c = lines_all (net_on c.args.board.now) c.args.lines.now.items c.args.moved.now c.loop-line.woken.items (λ j below. c.loop-line.invariant.has j (omega (arith, below, c.loop-line-test.false)))
