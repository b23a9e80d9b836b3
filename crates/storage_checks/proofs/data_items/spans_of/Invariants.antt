use Rattle.std.proofs.Common.{◌≡◌, take}
use Rattle.std.specs.List.{flat_map}
use Rattle.f77_tree.specs.InitialWords.{item_words, item_kinds}
use Rattle.layout_rules.specs.PlacedNames.{with_places}
use Rattle.storage_checks.specs.Runs.{span_words, span_kinds}
use Rattle.storage_checks.proofs.data_items.spans_of.Given as goal

abbrev pub invariant-loop-item : goal.invariant-loop-item
invariant-loop-item l = record {
  words : flat_map span_words l.spans.items ≡ flat_map (item_words (with_places l.names l.places)) (take l.item-index l.items);
  kinds : flat_map span_kinds l.spans.items ≡ flat_map (item_kinds (with_places l.names l.places)) (take l.item-index l.items);
}
