use Rattle.std.proofs.Common.{◌≡◌, ℕ, ◌^◌, length, Some}
use Rattle.std.specs.Prelude.{slice_get}
use Rattle.inlined_copies.specs.declared.unit_table.UnitTable.{UnitTable}
use Rattle.inlined_copies.specs.UnitTables.{IsTableOf}
use Rattle.f77_subs.proofs.unit_tables.unit_tables.Given as goal

abbrev pub invariant-loop-k : goal.invariant-loop-k
invariant-loop-k l = record {
  count : length l.tables.items ≡ l.k;
  each : (j : ℕ) (table : UnitTable) → slice_get l.tables.items j ≡ Some table → IsTableOf l.new.text.now.us.now (2 ^ 20) l.counts.counts.now j table;
}
