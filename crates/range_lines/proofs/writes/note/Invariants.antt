use Rattle.std.proofs.Common.{◌≡◌, ◌≤◌, ◌<◌, ◌*◌, ◌-◌, ℕ, true, length, slice_index}
use Rattle.class_set.specs.ClassSet.{holds}
use Rattle.range_lines.proofs.writes.note.Given as goal

abbrev pub invariant-loop-n : goal.invariant-loop-n
invariant-loop-n g l = record {
  within : l.n ≤ 64 * g.row.W;
  member : l.n < 64 * g.row.W → holds l.set l.n ≡ true;
  noted : (j : ℕ) → holds l.set j ≡ true → j < l.n → slice_index l.next.items j ≡ l.k;
  kept : (j : ℕ) → (holds l.set j ≡ true → l.n ≤ j) → slice_index l.next.items j ≡ slice_index l.fn.next.items j;
  all : length l.next.items ≡ 64 * g.row.W;
}

abbrev pub decreases-loop-n : goal.decreases-loop-n
decreases-loop-n g l = 64 * g.row.W - l.n
