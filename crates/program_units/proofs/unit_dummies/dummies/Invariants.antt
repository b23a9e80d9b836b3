use Rattle.std.proofs.Common.{◌≡◌, take}
use Rattle.program_units.specs.Units.{dummies_of}
use Rattle.program_units.proofs.unit_dummies.dummies.Given as goal

abbrev pub invariant-loop-s : goal.invariant-loop-s
invariant-loop-s l = l.names.items ≡ dummies_of (take l.s-index l.unit)
