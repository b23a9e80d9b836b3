use Rattle.std.proofs.Common.{◌≡◌, take}
use Rattle.cfg_build.proofs.reached.targets_with.Given as goal

abbrev pub invariant-loop-target : goal.invariant-loop-target
invariant-loop-target l = l.heads.items ≡ take l.target-index l.target-items
