use Rattle.std.proofs.Common.{◌≡◌, ℕ, length, Some}
use Rattle.std.specs.Prelude.{slice_get}
use Rattle.unit_checks.specs.declared.block_names.BlockTable.{BlockTable}
use Rattle.program_units.specs.Units.{unit_at}
use Rattle.unit_checks.specs.BlockTables.{IsTableOfBlocks}
use Rattle.unit_checks.proofs.bad_blocks.block_tables.Given as goal

abbrev pub invariant-loop-k : goal.invariant-loop-k
invariant-loop-k l = record {
  count : length l.tables.items ≡ l.k;
  each : (j : ℕ) (table : BlockTable) → slice_get l.tables.items j ≡ Some table → IsTableOfBlocks (unit_at l.us j) table;
}
