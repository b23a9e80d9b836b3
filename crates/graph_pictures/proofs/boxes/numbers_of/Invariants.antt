use Rattle.std.proofs.Common.{◌≡◌, map, take}
use Rattle.graph_pictures.specs.FlowDot.{number_of}
use Rattle.graph_pictures.proofs.boxes.numbers_of.Given as goal

abbrev pub invariant-loop-region : goal.invariant-loop-region
invariant-loop-region l = l.numbers.items ≡ map number_of (take l.region-index l.region-items)
