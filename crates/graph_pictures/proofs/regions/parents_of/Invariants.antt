use Rattle.std.proofs.Common.{◌≡◌, map, take}
use Rattle.graph_pictures.specs.FlowDot.{parent_of}
use Rattle.graph_pictures.proofs.regions.parents_of.Given as goal

abbrev pub invariant-loop-region : goal.invariant-loop-region
invariant-loop-region l = l.parents.items ≡ map parent_of (take l.region-index l.region-items)
