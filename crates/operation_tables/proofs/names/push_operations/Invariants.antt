use Rattle.std.proofs.Common.{◌≡◌, ◌++◌, map}
use Rattle.std.specs.List.{range_with_len}
use Rattle.firing.specs.declared.system.NodeName.TheVariants.{Op}
use Rattle.operation_tables.proofs.names.push_operations.Given as goal

abbrev pub invariant-loop-i : goal.invariant-loop-i
invariant-loop-i g l = l.names ≡ l.initial.names ++ map (Op l.piece) (range_with_len 0 l.i)
