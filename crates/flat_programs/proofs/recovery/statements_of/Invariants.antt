use Rattle.std.proofs.Common.{◌≡◌, ◌≤◌, length}
use Rattle.std.specs.Prelude.{flat_map}
use Rattle.std.specs.List.{range_with_len}
use Rattle.flat_programs.specs.Recovered.{lines_at}
use Rattle.flat_programs.proofs.recovery.statements_of.Given as goal

abbrev pub invariant-loop-k : goal.invariant-loop-k
invariant-loop-k l = record {
  few : length l.flat ≤ l.k;
  flat : l.flat ≡ flat_map (lines_at l.execs) (range_with_len 0 l.k);
}
