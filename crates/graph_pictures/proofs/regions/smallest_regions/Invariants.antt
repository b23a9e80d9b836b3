use Rattle.std.proofs.Common.{◌≡◌, ◌-◌, length}
use Rattle.graph_pictures.specs.FlowDot.{over_all, smallest_regions}
use Rattle.graph_pictures.proofs.regions.smallest_regions.Given as goal

abbrev pub invariant-loop : goal.invariant-loop
invariant-loop l = over_all l.flow (length l.flow.pieces.items - l.counter) l.found.items ≡ smallest_regions l.flow
