use Rattle.std.proofs.Common.{◌≡◌, ◌+◌, ◌-◌, ◌≤◌, length}
use Rattle.firing.specs.BlockCounts.{before, ones_of}
use Rattle.firing.proofs.ready_set.scan_words.Given as goal

abbrev pub invariant-loop-b : goal.invariant-loop-b
invariant-loop-b l = record {
  within : l.b ≤ length l.words;
  same : before (ones_of l.words) l.b + l.left ≡ before (ones_of l.words) l.first + l.place;
}

abbrev pub decreases-loop-b : goal.decreases-loop-b
decreases-loop-b l = length l.words - l.b
