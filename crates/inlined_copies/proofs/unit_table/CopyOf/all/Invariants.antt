use Rattle.std.proofs.Common.{◌≡◌, map, take}
use Rattle.inlined_copies.specs.Changes.{changes_of}
use Rattle.inlined_copies.proofs.unit_table.CopyOf.all.Given as goal

abbrev pub invariant-loop-name : goal.invariant-loop-name
invariant-loop-name l = l.new.items ≡ map (changes_of l.self).name (take l.name-index l.name-items)
