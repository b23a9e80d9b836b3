use Rattle.std.proofs.Common.{◌≡◌, ◌≤◌}
use Rattle.std.specs.List.{range_with_len, count_by}
use Rattle.simplified_forms.specs.Plans.{answer}
use Rattle.simplified_forms.specs.Tables.{IsTable}
use Rattle.simplified_forms.proofs.counts.counts.Given as goal

abbrev pub invariant-loop-is_one : goal.invariant-loop-is_one
invariant-loop-is_one l = record {
  counts : IsTable (λ k. count_by (answer l.answers) (range_with_len 0 k)) l.is_one-index l.counts.items;
  count : l.count ≡ count_by (answer l.answers) (range_with_len 0 l.is_one-index);
  few : l.count ≤ l.is_one-index;
}
