use Rattle.redundancy.proofs.Solves.{IsSpreading}
use Rattle.redundancy.proofs.solve.spread.Given as goal

abbrev pub invariant-loop-e : goal.invariant-loop-e
invariant-loop-e l = IsSpreading l.g l.computes l.kills l.node l.e-items l.e-index l.fn.missing.items l.fn.waiting.items l.missing.items l.waiting.items
