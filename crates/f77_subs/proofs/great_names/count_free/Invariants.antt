use Rattle.std.proofs.Common.{◌≡◌, ◌≤◌, filter, length}
use Rattle.std.specs.List.{range_with_len}
use Rattle.program_units.specs.NewNames.{is_free_of}
use Rattle.f77_subs.proofs.great_names.count_free.Given as goal

abbrev pub invariant-loop-i : goal.invariant-loop-i
invariant-loop-i l = record {
  is : l.count ≡ length (filter (is_free_of l.used) (range_with_len 1 l.i));
  few : l.count ≤ l.i;
}
