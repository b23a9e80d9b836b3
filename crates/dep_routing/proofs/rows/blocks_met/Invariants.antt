use Rattle.std.proofs.Common.{◌-◌}
use Rattle.dep_routing.proofs.rows.blocks_met.Given as goal

abbrev pub decreases-loop-next : goal.decreases-loop-next
decreases-loop-next g l = l.lines - l.next
