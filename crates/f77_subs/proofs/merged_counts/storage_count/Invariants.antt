use Rattle.std.proofs.Common.{◌≡◌, min}
use Rattle.f77_subs.specs.MergedCounts.{storage_below}
use Rattle.f77_subs.proofs.merged_counts.storage_count.Given as goal

abbrev pub invariant-loop-i : goal.invariant-loop-i
invariant-loop-i l = l.count ≡ min (storage_below l.us l.i) l.limit
