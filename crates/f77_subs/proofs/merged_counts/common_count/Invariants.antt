use Rattle.std.proofs.Common.{◌≡◌, filter, length, min, take}
use Rattle.f77_subs.specs.MergedCounts.{is_added_by}
use Rattle.f77_subs.proofs.merged_counts.common_count.Given as goal

abbrev pub invariant-loop-i : goal.invariant-loop-i
invariant-loop-i l = l.count ≡ min (length (filter (is_added_by l.main l.running) (take l.i l.blocks))) l.limit
