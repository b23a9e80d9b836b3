use Rattle.std.proofs.Common.{◌≡◌, ℕ, length}
use Rattle.std.specs.Prelude.{slice_index_or}
use Rattle.control_structure.proofs.room.make_room.Given as goal

abbrev pub invariant-loop : goal.invariant-loop
invariant-loop g l = record {
  count : length l.table.items ≡ l.counter;
  entries : (k : ℕ) → slice_index_or l.table.items k l.value ≡ slice_index_or l.initial.table.items k l.value;
}
