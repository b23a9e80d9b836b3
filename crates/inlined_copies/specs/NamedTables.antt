-- The tables of all units.
use Rattle.std.specs.Prelude.{◌≡◌, ℕ, ◌<◌, ◌^◌, true, List, [], length, Option, Some, None, bytes_eq, slice_get}
use Rattle.std.specs.List.{list_any}
use Rattle.f77_tree.specs.declared.statements.Labelled.{Labelled}
use Rattle.inlined_copies.specs.declared.unit_table.CopyTables.{CopyTables}
use Rattle.program_units.specs.declared.new_name.NewName.{NewName}
use Rattle.inlined_copies.specs.declared.unit_table.UnitTable.{UnitTable}
use Rattle.program_units.specs.Names.{names_of_unit}
use Rattle.program_units.specs.Heights.{NoneCallsItself}
use Rattle.program_units.specs.Units.{unit_at, AreFit}
use Rattle.inlined_copies.specs.UnitTables.{IsTableOf, MakeCopies}
use Rattle.program_units.specs.NewNames.{new_name}

-- what the names of the unit k become, where those of the main program stay
pub record AreNamed (us : List (List Labelled)) (k : ℕ) (names : List ℕ → Option NewName) : Type 0 where
  pub main : k ≡ 0 → (x : List ℕ) → names x ≡ None
  pub copied : 0 < k → (x : List ℕ) → list_any (bytes_eq x) (names_of_unit (unit_at us k)) ≡ true → names x ≡ Some (new_name us k x)

-- these are the tables of all units
pub record AreTablesOf (us : List (List Labelled)) (counts : List ℕ) (tables : List UnitTable) : Type 0 where
  pub as_many : length tables ≡ length us
  pub right : (k : ℕ) (table : UnitTable) → slice_get tables k ≡ Some table → IsTableOf us (2 ^ 20) counts k table

-- by these tables copies can be put
pub record AreTablesFor (copies : CopyTables) : Type 0 where
  pub none : NoneCallsItself copies.units.us.now
  pub fit : AreFit copies.units.us.now
  pub made : MakeCopies copies.units.us.now (2 ^ 20) copies.units.counts.now copies.tables.now
