use Rattle.closed_walks.proofs.Reversals.{IsReversedBelow-more}
use Rattle.closed_walks.proofs.strong.reversed.Goals as goal

pub loop-e-preserved : goal.loop-e-preserved
loop-e-preserved c = rw c.in_ok-add_edge.ensures.ok (IsReversedBelow-more c.args.g.now c.loop-e.back c.loop-e.e c.to.result c.from.result c.to.ensures.node c.from.ensures.node c.loop-e.invariant)
