use Rattle.std.proofs.Common.{◌≡◌, ◌≤◌, ◌+◌, map}
use Rattle.std.specs.List.{count_by, range_with_len}
use Rattle.flat_programs.specs.Recovered.{is_mark_at}
use Rattle.flat_programs.proofs.recovery.mark_counts.Given as goal

abbrev pub invariant-loop-k : goal.invariant-loop-k
invariant-loop-k l = record {
  counts : l.counts.items ≡ map (λ k. count_by (is_mark_at l.execs) (range_with_len 0 (k + 1))) (range_with_len 0 l.k);
  count : l.count ≡ count_by (is_mark_at l.execs) (range_with_len 0 l.k);
  few : l.count ≤ l.k;
}
