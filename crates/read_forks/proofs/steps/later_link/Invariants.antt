use Rattle.std.proofs.Common.{◌-◌}
use Rattle.read_forks.proofs.HalvedLinks.{IsAmid}
use Rattle.read_forks.proofs.steps.later_link.Given as goal

abbrev pub invariant-halves : goal.invariant-halves
invariant-halves l = IsAmid l.links.items l.fn.step l.line l.low l.high

abbrev pub decreases-halves : goal.decreases-halves
decreases-halves l = l.high - l.low
