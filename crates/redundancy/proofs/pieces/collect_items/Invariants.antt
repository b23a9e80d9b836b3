use Rattle.std.proofs.Common.{take, All}
use Rattle.std.specs.Prelude.{flat_map}
use Rattle.f77_tree.specs.Value.{IsExpression}
use Rattle.redundancy.specs.Collected.{IsGrown, all_subexpressions}
use Rattle.redundancy.specs.Computed.{in_item}
use Rattle.redundancy.proofs.pieces.collect_items.Given as goal

abbrev pub invariant-loop-item : goal.invariant-loop-item
invariant-loop-item l = record {
  expressions : All (IsExpression l.names) (flat_map in_item l.item-items);
  grown : IsGrown l.names (all_subexpressions (flat_map in_item (take l.item-index l.item-items))) l.fn.found.items l.found.items;
}
