use Rattle.redundancy.specs.Solving.{IsSolving, Nothing, work}
use Rattle.redundancy.proofs.solve.missing_row.Given as goal

abbrev pub invariant-loop-node : goal.invariant-loop-node
invariant-loop-node l = IsSolving l.g l.computes l.kills l.missing.items l.waiting.items Nothing

abbrev pub decreases-loop-node : goal.decreases-loop-node
decreases-loop-node l = work l.missing.items l.waiting.items
