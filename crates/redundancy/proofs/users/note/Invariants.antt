use Rattle.std.proofs.Common.{◌≡◌, ◌≤◌, ◌<◌, ◌*◌, ◌-◌, ℕ, true, length, slice_index}
use Rattle.class_set.specs.ClassSet.{holds}
use Rattle.redundancy.specs.Numbers.{with_bit}
use Rattle.redundancy.proofs.users.note.Given as goal

abbrev pub invariant-loop-n : goal.invariant-loop-n
invariant-loop-n g l = record {
  within : l.n ≤ 64 * g.row.W;
  member : l.n < 64 * g.row.W → holds l.set l.n ≡ true;
  noted : (j : ℕ) → holds l.set j ≡ true → j < l.n → slice_index l.users j ≡ with_bit (slice_index l.fn.users j) l.k;
  kept : (j : ℕ) → (holds l.set j ≡ true → l.n ≤ j) → slice_index l.users j ≡ slice_index l.fn.users j;
  all : length l.users ≡ 64 * g.row.W;
}

abbrev pub decreases-loop-n : goal.decreases-loop-n
decreases-loop-n g l = 64 * g.row.W - l.n
