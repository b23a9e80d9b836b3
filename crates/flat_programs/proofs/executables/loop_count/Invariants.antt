use Rattle.std.proofs.Common.{◌≡◌, ◌≤◌, take}
use Rattle.std.specs.List.{count_by}
use Rattle.flat_programs.specs.Marks.{is_loop}
use Rattle.flat_programs.proofs.executables.loop_count.Given as goal

abbrev pub invariant-loop-l : goal.invariant-loop-l
invariant-loop-l l = record {
  count : l.count ≡ count_by (λ s. is_loop s.stmt) (take l.l-index l.flat);
  few : l.count ≤ l.l-index;
}
