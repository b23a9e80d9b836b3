use Rattle.std.proofs.Common.{◌≡◌, ◌+◌, ◌≤◌}
use Rattle.flat_programs.specs.Marks.{mark_at}
use Rattle.flat_programs.specs.Flow.{IsTable}
use Rattle.flat_programs.proofs.flow.mark_numbers.Given as goal

abbrev pub invariant-loop-l : goal.invariant-loop-l
invariant-loop-l l = record {
  numbers : IsTable (mark_at l.flat) l.l-index l.numbers.items;
  number : l.number ≡ mark_at l.flat l.l-index;
  few : l.number ≤ l.l-index + 1;
}
