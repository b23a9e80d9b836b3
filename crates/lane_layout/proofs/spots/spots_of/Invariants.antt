use Rattle.std.proofs.Common.{◌≡◌, ◌++◌, drop}
use Rattle.lane_layout.specs.Spots.{spots_from}
use Rattle.lane_layout.proofs.spots.spots_of.Given as goal

abbrev pub invariant-loop-node : goal.invariant-loop-node
invariant-loop-node l = record {
  number : l.number ≡ l.node-index;
  told : l.spots.items ++ spots_from l.places l.number (drop l.node-index l.nodes) ≡ spots_from l.places 0 l.nodes;
}
