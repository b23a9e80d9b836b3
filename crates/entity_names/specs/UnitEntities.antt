-- What is kept of the names of units.
use Rattle.std.specs.Prelude.{◌≡◌, ℕ, Bool, not, ◌==◌, List, ◌++◌, filter, flat_map, map, length, Option, Some, bytes_eq, slice_get}
use Rattle.std.specs.List.{list_any, position_or_len}
use Rattle.std.specs.Option.{is_some}
use Rattle.indexmap.specs.IndexMap.{get}
use Rattle.f77_tree.specs.declared.statements.Labelled.{Labelled}
use Rattle.f77_tree.specs.Places.{same_block}
use Rattle.layout_rules.specs.Declarations.{all_commons}
use Rattle.declared_names.specs.Described.{described}
use Rattle.declared_names.specs.KeptDeclarations.{said_by}
use Rattle.entity_names.specs.declared.unit_entities.UnitNames.{UnitNames}
use Rattle.program_units.specs.Units.{dummies_of, sub_name, unit_at}
use Rattle.program_units.specs.CallTable.{if_below}
use Rattle.program_units.specs.declared.entity.Entity.{Entity}
use Rattle.program_units.specs.declared.entity.Entity.TheVariants.{Local, InBlock}
use Rattle.program_units.specs.Entities.{entity_or}
use Rattle.program_units.specs.Names.{names_of_unit, option_names}
use Rattle.entity_names.specs.UnitBlocks.{AreBlocksOf}

-- the names of a unit are kept
pub record AreNamesOf (unit : List Labelled) (kept : UnitNames) : Type 0 where
  pub declared : said_by kept.declared ≡ described unit
  pub names : kept.names ≡ names_of_unit unit
  pub dummies : kept.dummies.items ≡ dummies_of unit
  pub places : (x : List ℕ) → get bytes_eq kept.places x ≡ if_below (position_or_len (bytes_eq x) (dummies_of unit)) (length (dummies_of unit))
  pub blocks : AreBlocksOf unit kept.blocks

-- those of all units
pub record AreNamesOfAll (us : List (List Labelled)) (table : List UnitNames) : Type 0 where
  pub count : length table ≡ length us
  pub each : (k : ℕ) (kept : UnitNames) → slice_get table k ≡ Some kept → AreNamesOf (unit_at us k) kept

-- ---- entities by what is kept

abbrev pub entity_by : UnitNames → (k : ℕ) → List ℕ → Entity
entity_by kept k x = entity_or k x (get bytes_eq kept.blocks.entities x)

-- the blocks of the main program are these
abbrev pub is_main_by : (blocks : List (Option (List ℕ))) → Entity → Bool
is_main_by blocks (Local k name) = k == 0
is_main_by blocks (InBlock block place) = list_any (same_block block) blocks

-- the entities of names of the unit k that get names of their own
abbrev pub own_by : (blocks : List (Option (List ℕ))) → UnitNames → (k : ℕ) → List (List ℕ) → List Entity
own_by blocks kept k names = filter (λ e. not (is_main_by blocks e)) (map (entity_by kept k) (filter (λ x. not (is_some (get bytes_eq kept.places x))) names))

-- the names that a unit uses
abbrev pub used_by : UnitNames → List Labelled → List (List ℕ)
used_by kept unit = kept.names ++ kept.dummies.items ++ flat_map (λ s. option_names (sub_name s.stmt)) unit ++ flat_map (λ part. option_names part.block) (all_commons unit)
