use Rattle.firing.proofs.DigitLemmas.{Takes}
use Rattle.firing.proofs.ready_set.set_digit.Given as goal

abbrev pub invariant-loop-taken : goal.invariant-loop-taken
invariant-loop-taken l = Takes l.word l.rest l._taken
