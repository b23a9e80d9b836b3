use Rattle.std.proofs.Common.{◌≡◌, ℕ, length, Some}
use Rattle.std.specs.Prelude.{slice_get}
use Rattle.unit_checks.specs.declared.unit_interface.UnitInterface.{UnitInterface}
use Rattle.program_units.specs.Units.{unit_at}
use Rattle.unit_checks.specs.Interfaces.{IsInterfaceOf}
use Rattle.unit_checks.proofs.bad_calls.unit_interfaces.Given as goal

abbrev pub invariant-loop-k : goal.invariant-loop-k
invariant-loop-k l = record {
  count : length l.interfaces.items ≡ l.k;
  each : (j : ℕ) (unit : UnitInterface) → slice_get l.interfaces.items j ≡ Some unit → IsInterfaceOf (unit_at l.us j) unit;
}
