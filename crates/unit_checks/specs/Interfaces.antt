-- What is asked of a unit where another one calls it.
use Rattle.std.specs.Prelude.{◌≡◌, ◌+◌, ℕ, List, length, Some, slice_get}
use Rattle.f77_tree.specs.declared.statements.Labelled.{Labelled}
use Rattle.layout_rules.specs.Appearances.{each_once}
use Rattle.declared_names.specs.Described.{described}
use Rattle.declared_names.specs.KeptDeclarations.{said_by}
use Rattle.unit_checks.specs.declared.unit_interface.UnitInterface.{UnitInterface}
use Rattle.program_units.specs.Units.{dummies_of, unit_at}
use Rattle.program_units.specs.Refusals.{names_of_storage}

pub record IsInterfaceOf (unit : List Labelled) (interface : UnitInterface) : Type 0 where
  pub declared : said_by interface.declared ≡ described unit
  pub dummies : interface.dummies.items ≡ dummies_of unit
  pub storage : interface.storage ≡ each_once (names_of_storage unit)

-- what is asked of all units, and of one without statements behind them
pub record AreInterfaces (us : List (List Labelled)) (table : List UnitInterface) : Type 0 where
  pub count : length table ≡ length us + 1
  pub each : (k : ℕ) (interface : UnitInterface) → slice_get table k ≡ Some interface → IsInterfaceOf (unit_at us k) interface
