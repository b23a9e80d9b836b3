use Rattle.std.proofs.Common.{◌≡◌, ◌-◌, ◌≤◌, length, map, filter}
use Rattle.std.specs.List.{range_with_len}
use Rattle.program_units.specs.Names.{y_text}
use Rattle.program_units.specs.NewNames.{is_free_of}
use Rattle.entity_names.proofs.y_names.free_names.Given as goal

abbrev pub invariant-loop-n : goal.invariant-loop-n
invariant-loop-n l = record {
  some : 1 ≤ l.n;
  top : l.n ≤ 100000;
  few : length l.names.items ≤ l.count;
  free : l.names.items ≡ map y_text (filter (is_free_of l.used) (range_with_len 1 (l.n - 1)));
}
