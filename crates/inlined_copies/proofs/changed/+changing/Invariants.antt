use Rattle.std.proofs.Common.{◌≡◌, [], map, fold, take}
use Rattle.program_units.specs.Copies.{changed}
use Rattle.inlined_copies.specs.Changes.{changes_of, with_operand}
use Rattle.inlined_copies.proofs.changed.+changing.Given as goal

abbrev pub invariant-changed_row-loop-arg : goal.invariant-changed_row-loop-arg
invariant-changed_row-loop-arg l = l.row ≡ map (changed (changes_of l.c)) (take l.arg-index l.arg-items)

abbrev pub invariant-changed_pairs-loop-arg : goal.invariant-changed_pairs-loop-arg
invariant-changed_pairs-loop-arg l = l.operands ≡ fold (with_operand l.op) [] (map (changed (changes_of l.c)) (take l.arg-index l.arg-items))
