use Rattle.std.proofs.Common.{◌≡◌, ℕ, ◌+◌, take, count_by}
use Rattle.cfg_build.specs.declared.parts.Target.{Target}
use Rattle.cfg_build.specs.Joined.{is_same}
use Rattle.cfg_build.specs.Tables.{number_in, IsIn, HasRoom}
use Rattle.cfg_build.proofs.numbers.count_ways.Given as goal

abbrev pub invariant-loop-target : goal.invariant-loop-target
invariant-loop-target l = record {
  room : (execs : ℕ) → HasRoom execs l.initial.ways → HasRoom execs l.ways;
  within : (target : Target) → IsIn l.initial.ways target → IsIn l.ways target;
  counts : (target : Target) → number_in l.ways target ≡ number_in l.initial.ways target + count_by (is_same target) (take l.target-index l.outs);
}
