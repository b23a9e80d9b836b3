use Rattle.std.proofs.Common.{◌≡◌, min, take}
use Rattle.std.specs.List.{count_by}
use Rattle.f77_subs.specs.MergedCounts.{is_equivalence_or_data}
use Rattle.f77_subs.proofs.merged_counts.unit_storage.Given as goal

abbrev pub invariant-loop-s : goal.invariant-loop-s
invariant-loop-s l = l.count ≡ min (count_by (λ s. is_equivalence_or_data s.stmt) (take l.s-index l.unit)) l.limit
