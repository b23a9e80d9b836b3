use Rattle.std.proofs.Common.{◌≡◌, ◌++◌, drop, map}
use Rattle.lane_layout.specs.Spots.{spot_in}
use Rattle.lane_layout.proofs.spots.titled.Given as goal

abbrev pub invariant-loop-spot : goal.invariant-loop-spot
invariant-loop-spot l = map spot_in l.marks.items ++ drop l.spot-index l.spots ≡ l.spots
