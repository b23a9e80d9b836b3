use Rattle.std.proofs.Common.{◌≡◌, List, length}
use Rattle.layout_rules.specs.Storage.{Spot}
use Rattle.storage_association.specs.Trees.{IsForest}
use Rattle.layout_rules.specs.Spots.{AreLowest}
use Rattle.storage_association.specs.WordNumbers.{AreNumbered}
use Rattle.storage_association.proofs.word_numbers.word_numbers.Given as goal

abbrev pub invariant-loop-name : goal.invariant-loop-name
invariant-loop-name l = record {
  all : length l.bases.items ≡ length l.names;
  so_far : (spots : List Spot) → IsForest l.forest.nodes.items spots → AreLowest spots → AreNumbered l.names l.forest.nodes.items spots l.name l.words l.places.items l.bases.items;
}
