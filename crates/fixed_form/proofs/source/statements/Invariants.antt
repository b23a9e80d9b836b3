use Rattle.std.proofs.Common.{length}
use Rattle.fixed_form.proofs.SoFar.{IsSoFar}
use Rattle.fixed_form.proofs.source.statements.Given as goal

abbrev pub invariant-loop-rest : goal.invariant-loop-rest
invariant-loop-rest l = IsSoFar l.bytes l.reader l.rest

abbrev pub decreases-loop-rest : goal.decreases-loop-rest
decreases-loop-rest l = length l.rest
