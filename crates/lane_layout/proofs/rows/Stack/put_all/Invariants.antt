use Rattle.std.proofs.Common.{◌≡◌}
use Rattle.lane_layout.proofs.rows.Stack.put_all.Given as goal

abbrev pub invariant-loop-number : goal.invariant-loop-number
invariant-loop-number l = record {
  statements : l.self.statements ≡ l.initial.self.statements;
  last : l.self.last ≡ l.initial.self.last;
}
