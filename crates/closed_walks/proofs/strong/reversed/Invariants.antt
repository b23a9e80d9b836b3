use Rattle.closed_walks.proofs.Reversals.{IsReversedBelow}
use Rattle.closed_walks.proofs.strong.reversed.Given as goal

abbrev pub invariant-loop-e : goal.invariant-loop-e
invariant-loop-e l = IsReversedBelow l.g l.back l.e
