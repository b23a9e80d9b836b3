use Rattle.std.proofs.Common.{◌≡◌, ◌≤◌, ◌*◌}
use Rattle.flat_programs.specs.Executables.{first_of}
use Rattle.flat_programs.specs.Flow.{IsTable}
use Rattle.flat_programs.proofs.flow.first_executables.Given as goal

abbrev pub invariant-loop-place : goal.invariant-loop-place
invariant-loop-place l = record {
  first : IsTable (first_of l.flat) l.place l.first.items;
  index : l.index ≡ first_of l.flat l.place;
  few : l.index ≤ 2 * l.place;
}
