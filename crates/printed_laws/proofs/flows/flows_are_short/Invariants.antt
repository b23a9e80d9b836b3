use Rattle.printed_laws.specs.ShortFlow.{AreShortBelow}
use Rattle.printed_laws.proofs.flows.flows_are_short.Given as goal

abbrev pub invariant-loop-k : goal.invariant-loop-k
invariant-loop-k l = AreShortBelow l.flow.pieces l.k
