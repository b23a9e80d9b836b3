use Rattle.std.proofs.Common.{◌≡◌, take}
use Rattle.program_units.specs.Units.{standing_in as standing_in_of}
use Rattle.program_units.proofs.stand_in.standing_in.Given as goal

abbrev pub invariant-loop-s : goal.invariant-loop-s
invariant-loop-s l = l.list ≡ standing_in_of (take l.s-index l.unit)
