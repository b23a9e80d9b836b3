use Rattle.std.proofs.Common.{◌≡◌, ◌<◌, ◌≤◌, ◌&&◌, ℕ, length}
use Rattle.class_set.specs.ClassSet.{holds}
use Rattle.dep_routing.specs.Noise.{marks_of}
use Rattle.dep_routing.specs.Rows.{is_noisy}
use Rattle.dep_routing.specs.Touch.{touches_in}
use Rattle.dep_routing.proofs.rows.keep_lines.Given as goal

abbrev pub invariant-loop-r : goal.invariant-loop-r
invariant-loop-r g l = record {
  size : length l.sets.items ≡ length l.fn.sets.items;
  done : (k line : ℕ) → k < l.r → touches_in l.sets.items k line ≡ (holds l.lines line && is_noisy (marks_of l.fn.sets.items line) k);
  ahead : (k line : ℕ) → l.r ≤ k → touches_in l.sets.items k line ≡ touches_in l.fn.sets.items k line;
}
