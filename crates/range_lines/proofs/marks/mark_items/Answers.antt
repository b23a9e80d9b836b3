use Rattle.std.proofs.Common.{◌++◌, map, flat_map, sym, ap, ◌∙◌}
use Rattle.loop_ranges.specs.Subscripts.{item_subscripts}
use Rattle.range_lines.specs.Marks.{is_seen}
use Rattle.range_lines.proofs.FlagRows.{pieces-all, map-pieces}
use Rattle.range_lines.proofs.marks.mark_items.Goals as goal

pub returns : goal.returns
returns c =
    let f = is_seen c.args.current.now c.args.k in
    let items = c.as_slice-item-items.result.now in
    pieces-all (λ item. map f (item_subscripts c.args.names.now item)) c.loop-item.row (c.args.row.now ++ flat_map (λ item. map f (item_subscripts c.args.names.now item)) items) items c.loop-item.item-index c.loop-item-test.false c.loop-item.invariant.rest
    ∙ ap (λ xs. c.args.row.now ++ flat_map (λ item. map f (item_subscripts c.args.names.now item)) xs) c.as_slice-item-items.ensures.items
    ∙ ap (λ fs. c.args.row.now ++ fs) (sym (map-pieces f (item_subscripts c.args.names.now) c.args.items.now))
