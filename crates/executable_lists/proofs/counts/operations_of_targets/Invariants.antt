use Rattle.std.proofs.Common.{◌≡◌, Bool, take}
use Rattle.std.specs.Prelude.{sum_by}
use Rattle.control_structure.specs.Counted.{counted}
use Rattle.control_structure.specs.OwnOperations.{target_operations}
use Rattle.executable_lists.proofs.counts.operations_of_targets.Given as goal

abbrev pub invariant-loop-target : goal.invariant-loop-target
invariant-loop-target l = (checked : Bool) → l.count ≡ counted (sum_by (target_operations l.names checked) (take l.target-index l.target-items))
