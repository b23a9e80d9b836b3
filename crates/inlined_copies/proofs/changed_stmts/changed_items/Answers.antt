use Rattle.std.proofs.Common.{◌≤◌, List, length, arith, sym, subst}
use Rattle.f77_tree.specs.declared.statements.RawItem.{RawItem}
use Rattle.program_units.specs.Copies.{changed_item}
use Rattle.inlined_copies.specs.Changes.{changes_of}
use Rattle.inlined_copies.proofs.ChangedRows.{map-few}
use Rattle.inlined_copies.proofs.changed_stmts.changed_items.Goals as goal

pub push-requires : goal.push-requires
push-requires c =
    let few : length c.loop-item.made ≤ c.loop-item.item-index = subst (λ (row : List RawItem). length row ≤ c.loop-item.item-index) (sym c.loop-item.invariant) (map-few (changed_item (changes_of c.args.c.now)) c.as_slice-item-items.result.now c.loop-item.item-index) in
    let room = c.as_slice-item-items.ensures.len in
    omega (arith, few, room)
