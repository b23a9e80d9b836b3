use Rattle.std.proofs.Common.{◌≡◌, map, take}
use Rattle.inlined_copies.specs.Changes.{changes_of}
use Rattle.inlined_copies.proofs.changed_stmts.changed_labels.Given as goal

abbrev pub invariant-loop-label : goal.invariant-loop-label
invariant-loop-label l = l.made ≡ map (changes_of l.c).jump (take l.label-index l.label-items)
