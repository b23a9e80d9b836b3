use Rattle.std.proofs.Common.{◌≡◌, ◌≤◌, ◌+◌, ◌++◌, length}
use Rattle.std.specs.Prelude.{flat_map, slice_get}
use Rattle.std.specs.List.{range_with_len}
use Rattle.shared_forms.specs.Numbered.{number_of}
use Rattle.shared_forms.specs.Shared.{shared, temporary_at}
use Rattle.regenerate.proofs.longer_table.longer_names.Given as goal

abbrev pub invariant-loop-j : goal.invariant-loop-j
invariant-loop-j l = record {
  few : length l.names ≤ 4000 + l.j;
  names : l.names ≡ l.q.names ++ flat_map (λ j. temporary_at l.q l.a (number_of l.a) j (slice_get (shared l.q l.a (number_of l.a)) j)) (range_with_len 0 l.j);
}
