use Rattle.std.proofs.Common.{◌≡◌, ◌+◌, ◌++◌, length, drop}
use Rattle.layout_rules.specs.Executables.{taking, at_line}
use Rattle.executable_lists.proofs.executables.Maker.take.Given as goal

abbrev pub invariant-loop-k : goal.invariant-loop-k
invariant-loop-k l = record {
  size : length l.execs ≡ length l.initial.execs + l.k;
  execs : l.execs ++ at_line l.line (taking l.self.names.now l.self.checked (length l.initial.execs + l.k) l.next (drop l.k l.target-items)) ≡ l.initial.execs ++ at_line l.line (taking l.self.names.now l.self.checked (length l.initial.execs) l.next l.targets);
}
