use Rattle.std.proofs.Common.{◌≡◌, ◌+◌, ◌-◌, ◌≤◌, length, replicate}
use Rattle.fixed_form.specs.OpenStmt.{with_characters}
use Rattle.fixed_form.proofs.open_stmt.OpenStmt.put_blanks.Given as goal

abbrev pub invariant-loop-i : goal.invariant-loop-i
invariant-loop-i l = record {
  so_far : with_characters l.self (replicate (l.n - l.i) 32) ≡ with_characters l.fn.self (replicate l.n 32);
  room : length l.self.text + (l.n - l.i) ≤ length l.fn.self.text + l.n;
}
