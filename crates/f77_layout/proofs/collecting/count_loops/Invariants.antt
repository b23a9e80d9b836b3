use Rattle.std.proofs.Common.{◌≡◌, ◌≤◌}
use Rattle.layout_rules.specs.Executables.{loop_number}
use Rattle.f77_layout.proofs.collecting.count_loops.Given as goal

abbrev pub invariant-loop-s : goal.invariant-loop-s
invariant-loop-s l = record {
  count : l.count ≡ loop_number l.stmts l.s-index;
  few : l.count ≤ l.s-index;
}
