use Rattle.std.proofs.Common.{◌+◌, ◌-◌, ◌*◌}
use Rattle.closed_walks.specs.Graph.{edge_count}
use Rattle.cycle_equiv.specs.WalkState.{IsPaidWalk, progress}
use Rattle.cycle_equiv.proofs.walk.edge_names.Given as goal

abbrev pub invariant-walk : goal.invariant-walk
invariant-walk g l = IsPaidWalk l.g l.walk l.u l.fn.steps l.steps

abbrev pub decreases-walk : goal.decreases-walk
decreases-walk g l = (4 * edge_count l.g + 6 * l.g.nodes) - progress l.walk
