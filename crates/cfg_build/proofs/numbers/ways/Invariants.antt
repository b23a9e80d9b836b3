use Rattle.std.proofs.Common.{◌≡◌, take}
use Rattle.cfg_build.specs.declared.parts.Target.{Target}
use Rattle.cfg_build.specs.Joined.{ways_to}
use Rattle.cfg_build.specs.Tables.{number_in, HasRoom}
use Rattle.cfg_build.proofs.numbers.ways.Given as goal

abbrev pub invariant-loop-part : goal.invariant-loop-part
invariant-loop-part l = record {
  room : HasRoom l.execs l.ways;
  ways : (target : Target) → number_in l.ways target ≡ ways_to (take l.part-index l.parts) target;
}
