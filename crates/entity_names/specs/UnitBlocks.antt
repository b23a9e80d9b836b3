-- The names of a unit's COMMON blocks, one after another, and what is kept of them.
use Rattle.std.specs.Prelude.{◌≡◌, ℕ, ◌≤◌, Bool, if◌then◌else◌, List, map, flat_map, filter, length, Option, Some, None, bytes_eq, slice_get}
use Rattle.std.specs.List.{position_or_len}
use Rattle.indexmap.specs.IndexMap.{get, index_map_len}
use Rattle.f77_tree.specs.declared.declarations.CommonPart.{CommonPart}
use Rattle.f77_tree.specs.declared.declarations.Decl.{Decl}
use Rattle.f77_tree.specs.declared.statements.Labelled.{Labelled}
use Rattle.f77_tree.specs.Places.{same_block}
use Rattle.layout_rules.specs.Declarations.{all_commons}
use Rattle.layout_rules.specs.Faults.{first_answer}
use Rattle.entity_names.specs.declared.unit_blocks.UnitBlocks.{UnitBlocks}
use Rattle.program_units.specs.declared.entity.Entity.{Entity}
use Rattle.program_units.specs.declared.entity.Entity.TheVariants.{InBlock}
use Rattle.program_units.specs.Entities.{block_list, found_in}
use Rattle.program_units.specs.Names.{same_entity}

-- a name of a block
pub record InCommon : Type 0 where
  pub block : Option (List ℕ)
  pub name : List ℕ

abbrev pub declared_by : Option (List ℕ) → List Decl → List InCommon
declared_by block decls = map (λ (decl : Decl). record { block = block; name = decl.name }) decls

abbrev pub in_part : CommonPart → List InCommon
in_part part = declared_by part.block part.decls

-- the names of all blocks, in the order of the text
abbrev pub in_commons : List CommonPart → List InCommon
in_commons parts = flat_map in_part parts

-- those of one block
abbrev pub in_block : List InCommon → Option (List ℕ) → List (List ℕ)
in_block common block = map (λ c. c.name) (filter (λ c. same_block c.block block) common)

abbrev pub block_if : List ℕ → InCommon → Option (Option (List ℕ))
block_if x c = if bytes_eq c.name x then Some c.block else None

abbrev pub place_in_block : List InCommon → List ℕ → Option (Option (List ℕ)) → Option Entity
place_in_block common x None = None
place_in_block common x (Some block) = Some (InBlock block (position_or_len (bytes_eq x) (in_block common block)))

-- what a name stands for, if it is in a block: its first place in the first block that has it
abbrev pub entity_in : List InCommon → List ℕ → Option Entity
entity_in common x = place_in_block common x (first_answer (block_if x) common)

abbrev pub place_if : Option (List ℕ) → (place : ℕ) → Bool → Option Entity
place_if block place own = if own then Some (InBlock block place) else None

abbrev pub or_zero : Option ℕ → ℕ
or_zero None = 0
or_zero (Some n) = n

-- in the new map the keys that equal this one have the value, and the others theirs in the old one
abbrev pub Sets : {K V : Type 0} → (eq : K → K → Bool) → (key : K) → (value : V) → (old new : K → Option V) → Type 0
Sets {K} eq key value old new = (x : K) → new x ≡ (if eq key x then Some value else old x)

-- these names are kept
pub record AreKept (common : List InCommon) (kept : UnitBlocks) : Type 0 where
  pub sizes : (block : Option (List ℕ)) → or_zero (get same_block kept.sizes block) ≡ length (in_block common block)
  pub entities : (x : List ℕ) → get bytes_eq kept.entities x ≡ entity_in common x
  pub names : (block : Option (List ℕ)) (place : ℕ) → get same_entity kept.names (InBlock block place) ≡ slice_get (in_block common block) place
  -- each has an entry of its own
  pub many : length common ≤ index_map_len kept.names

-- Names of blocks are kept, and no others.
pub record KeepsNames (kept : UnitBlocks) : Type 0 where
  pub common : List InCommon
  pub are : AreKept common kept

-- all names of the blocks of a unit are kept
pub record AreBlocksOf (unit : List Labelled) (kept : UnitBlocks) : Type 0 where
  pub sizes : (block : Option (List ℕ)) → or_zero (get same_block kept.sizes block) ≡ length (block_list unit block)
  pub entities : (x : List ℕ) → get bytes_eq kept.entities x ≡ first_answer (found_in unit x) (all_commons unit)
  pub names : (block : Option (List ℕ)) (place : ℕ) → get same_entity kept.names (InBlock block place) ≡ slice_get (block_list unit block) place
