use Rattle.std.proofs.Common.{◌≡◌, ℕ, length, Some}
use Rattle.std.specs.Prelude.{slice_get}
use Rattle.entity_names.specs.declared.unit_entities.UnitNames.{UnitNames}
use Rattle.program_units.specs.Units.{unit_at}
use Rattle.entity_names.specs.UnitEntities.{AreNamesOf}
use Rattle.entity_names.proofs.unit_entities.names_of_all.Given as goal

abbrev pub invariant-loop-k : goal.invariant-loop-k
invariant-loop-k l = record {
  count : length l.kept.items ≡ l.k;
  each : (j : ℕ) (unit : UnitNames) → slice_get l.kept.items j ≡ Some unit → AreNamesOf (unit_at l.us j) unit;
}
