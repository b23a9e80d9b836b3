use Rattle.std.proofs.Common.{◌≡◌, ◌≤◌}
use Rattle.flat_programs.specs.Marks.{loop_at}
use Rattle.flat_programs.specs.Flow.{IsTable}
use Rattle.flat_programs.proofs.flow.loop_numbers.Given as goal

abbrev pub invariant-loop-l : goal.invariant-loop-l
invariant-loop-l l = record {
  loops : IsTable (loop_at l.flat) l.l-index l.loops.items;
  number : l.number ≡ loop_at l.flat l.l-index;
  few : l.number ≤ l.l-index;
}
