use Rattle.std.proofs.Common.{◌≡◌, filter, length, min, take}
use Rattle.program_units.specs.Expansion.{is_running}
use Rattle.f77_subs.proofs.merged_counts.type_count.Given as goal

abbrev pub invariant-loop-i : goal.invariant-loop-i
invariant-loop-i l = l.count ≡ min (length (filter (is_running l.us) (take l.i l.own))) l.limit
