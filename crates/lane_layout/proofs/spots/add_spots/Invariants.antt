use Rattle.std.proofs.Common.{◌≡◌, ◌++◌, map, take}
use Rattle.lane_layout.specs.Spots.{spot_at}
use Rattle.lane_layout.proofs.spots.add_spots.Given as goal

abbrev pub invariant-loop-line : goal.invariant-loop-line
invariant-loop-line l = l.spots.items ≡ l.initial.spots.items ++ map (spot_at l.places l.number l.shape) (take l.line-index l.lines)
