use Rattle.std.proofs.Common.{◌≡◌, map, take}
use Rattle.flat_programs.specs.Executables.{marked}
use Rattle.flat_programs.proofs.executables.marked_targets.Given as goal

abbrev pub invariant-loop-number : goal.invariant-loop-number
invariant-loop-number l = l.marked ≡ map (marked l.flat) (take l.number-index l.targets)
