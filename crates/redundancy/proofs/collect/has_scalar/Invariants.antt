use Rattle.std.proofs.Common.{◌≡◌, false, take}
use Rattle.std.specs.List.{list_any}
use Rattle.redundancy.specs.Candidates.{is_scalar}
use Rattle.redundancy.proofs.collect.has_scalar.Given as goal

abbrev pub invariant-loop-arg : goal.invariant-loop-arg
invariant-loop-arg l = list_any is_scalar (take l.arg-index l.arg-items) ≡ false
