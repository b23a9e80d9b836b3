use Rattle.std.proofs.Common.{◌≡◌, Bool, take}
use Rattle.std.specs.Prelude.{sum_by}
use Rattle.control_structure.specs.Counted.{counted}
use Rattle.control_structure.specs.OwnOperations.{printed_operations}
use Rattle.executable_lists.proofs.counts.operations_of_items.Given as goal

abbrev pub invariant-loop-item : goal.invariant-loop-item
invariant-loop-item l = (checked : Bool) → l.count ≡ counted (sum_by (printed_operations l.names checked) (take l.item-index l.item-items))
