use Rattle.std.proofs.Common.{◌≡◌, List, length}
use Rattle.layout_rules.specs.Storage.{Spot}
use Rattle.storage_association.specs.Trees.{IsForest}
use Rattle.storage_association.specs.WordNumbers.{AreSpans}
use Rattle.storage_association.proofs.word_numbers.spans.Given as goal

abbrev pub invariant-loop-name : goal.invariant-loop-name
invariant-loop-name l = record {
  all : length l.spans.items ≡ length l.names;
  so_far : (spots : List Spot) → IsForest l.forest.nodes.items spots → AreSpans l.names l.forest.nodes.items spots l.name l.spans.items;
}
