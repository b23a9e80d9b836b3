use Rattle.std.proofs.Common.{◌≡◌, ◌+◌, ◌-◌, ◌≤◌, length}
use Rattle.firing.specs.BlockCounts.{before}
use Rattle.firing.proofs.ready_set.scan.Given as goal

abbrev pub invariant-loop-b : goal.invariant-loop-b
invariant-loop-b l = record {
  within : l.b ≤ length l.counts;
  same : before l.counts l.b + l.left ≡ before l.counts l.first + l.place;
}

abbrev pub decreases-loop-b : goal.decreases-loop-b
decreases-loop-b l = length l.counts - l.b
