use Rattle.std.proofs.Common.{◌≡◌, map, take}
use Rattle.program_units.specs.Copies.{changed_item}
use Rattle.inlined_copies.specs.Changes.{changes_of}
use Rattle.inlined_copies.proofs.changed_stmts.changed_items.Given as goal

abbrev pub invariant-loop-item : goal.invariant-loop-item
invariant-loop-item l = l.made ≡ map (changed_item (changes_of l.c)) (take l.item-index l.item-items)
