use Rattle.std.proofs.Common.{◌≡◌, ◌<◌, ℕ, [], Some, length, slice_get, slice_index_or}
use Rattle.f77_tree.specs.declared.programs.Exec.{Exec}
use Rattle.range_lines.specs.Ranges.{IsCurrent, IsRow}
use Rattle.range_lines.proofs.ranges.Ranges.new.Given as goal

abbrev pub invariant-loop-k : goal.invariant-loop-k
invariant-loop-k g l = record {
  each : length l.rows.items ≡ l.k;
  rows : (j : ℕ) (exec : Exec) → j < l.k → slice_get l.p.execs j ≡ Some exec → IsRow l.p l.c j exec (slice_index_or l.rows.items j []);
  current : IsCurrent l.p l.c l.k l.current.items;
}
