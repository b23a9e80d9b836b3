use Rattle.std.proofs.Common.{◌≡◌, ◌≤◌}
use Rattle.layout_rules.specs.Executables.{loop_number}
use Rattle.layout_rules.specs.Tables.{IsTable}
use Rattle.executable_lists.proofs.loops.loop_numbers.Given as goal

abbrev pub invariant-loop-s : goal.invariant-loop-s
invariant-loop-s l = record {
  numbers : IsTable (loop_number l.stmts) l.s-index l.numbers.items;
  count : l.count ≡ loop_number l.stmts l.s-index;
  few : l.count ≤ l.s-index;
}
