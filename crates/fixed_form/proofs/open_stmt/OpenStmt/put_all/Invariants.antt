use Rattle.std.proofs.Common.{◌≡◌, ◌+◌, ◌-◌, ◌≤◌, length, drop}
use Rattle.fixed_form.specs.OpenStmt.{with_characters}
use Rattle.fixed_form.proofs.open_stmt.OpenStmt.put_all.Given as goal

abbrev pub invariant-loop-c : goal.invariant-loop-c
invariant-loop-c l = record {
  so_far : with_characters l.self (drop l.c-index l.characters) ≡ with_characters l.fn.self l.characters;
  room : length l.self.text + (length l.characters - l.c-index) ≤ length l.fn.self.text + length l.characters;
}
