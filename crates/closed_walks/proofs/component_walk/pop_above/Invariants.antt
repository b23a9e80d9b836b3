use Rattle.std.proofs.Common.{length}
use Rattle.closed_walks.proofs.Stages.{IsCut}
use Rattle.closed_walks.proofs.component_walk.pop_above.Given as goal

abbrev pub invariant-loop-bound : goal.invariant-loop-bound
invariant-loop-bound l = IsCut l.fn.bounds.items l.place l.bounds.items

abbrev pub decreases-loop-bound : goal.decreases-loop-bound
decreases-loop-bound l = length l.bounds.items
