use Rattle.std.proofs.Common.{◌≡◌, Bool, map, take}
use Rattle.std.specs.Prelude.{sum_by}
use Rattle.f77_tree.specs.Operations.{operations}
use Rattle.control_structure.specs.Counted.{counted}
use Rattle.layout_rules.specs.Resolved.{resolved}
use Rattle.executable_lists.proofs.operations.+counting.Given as goal

abbrev pub invariant-count_in_row-loop-arg : goal.invariant-count_in_row-loop-arg
invariant-count_in_row-loop-arg l = (checked : Bool) → l.count ≡ counted (sum_by operations (map (resolved l.names checked) (take l.arg-index l.arg-items)))
