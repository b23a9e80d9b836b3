use Rattle.std.proofs.Common.{◌≡◌, ◌≤◌, ◌*◌, length}
use Rattle.std.specs.Prelude.{flat_map}
use Rattle.std.specs.List.{range_with_len}
use Rattle.flat_programs.specs.Executables.{executables_at}
use Rattle.flat_programs.proofs.executables.executables_of.Given as goal

abbrev pub invariant-loop-place : goal.invariant-loop-place
invariant-loop-place l = record {
  few : length l.execs ≤ 2 * l.place;
  execs : l.execs ≡ flat_map (executables_at l.flat) (range_with_len 0 l.place);
}
