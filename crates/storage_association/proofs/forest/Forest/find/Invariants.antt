use Rattle.std.proofs.Common.{◌<◌, ◌-◌, List, length}
use Rattle.layout_rules.specs.Storage.{Spot}
use Rattle.storage_association.specs.Trees.{IsForest, node_at}
use Rattle.layout_rules.specs.Spots.{IsBelow}
use Rattle.storage_association.proofs.forest.Forest.find.Given as goal

abbrev pub invariant-loop-root : goal.invariant-loop-root
invariant-loop-root l = record {
  known : l.root < length l.self.nodes.items;
  walk : (spots : List Spot) → IsForest l.self.nodes.items spots → IsBelow spots l.name l.root l.distance;
}

abbrev pub decreases-loop-root : goal.decreases-loop-root
decreases-loop-root l = length l.self.nodes.items - (node_at l.self.nodes.items l.root).count
