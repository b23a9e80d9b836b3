use Rattle.std.proofs.Common.{◌≡◌, [], replicate}
use Rattle.cycle_equiv.proofs.walk.no_caps.Given as goal

abbrev pub invariant-loop : goal.invariant-loop
invariant-loop l = l.caps.items ≡ replicate l.counter []
