use Rattle.std.proofs.Common.{◌≡◌, ◌++◌, All, drop, map, flat_map}
use Rattle.f77_tree.specs.CanRun.{CanPrint}
use Rattle.loop_ranges.specs.Subscripts.{item_subscripts}
use Rattle.range_lines.specs.Marks.{is_seen}
use Rattle.range_lines.proofs.marks.mark_items.Given as goal

abbrev pub invariant-loop-item : goal.invariant-loop-item
invariant-loop-item l = record {
  items : All (CanPrint l.names) l.item-items;
  rest : l.row ++ flat_map (λ item. map (is_seen l.current l.k) (item_subscripts l.names item)) (drop l.item-index l.item-items) ≡ l.fn.row ++ flat_map (λ item. map (is_seen l.current l.k) (item_subscripts l.names item)) l.item-items;
}
