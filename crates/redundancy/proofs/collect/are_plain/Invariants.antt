use Rattle.std.proofs.Common.{◌≡◌, true, take}
use Rattle.redundancy.specs.Collected.{all_plain}
use Rattle.redundancy.proofs.collect.are_plain.Given as goal

abbrev pub invariant-loop-k : goal.invariant-loop-k
invariant-loop-k l = all_plain (take l.k l.arg-items) ≡ true
