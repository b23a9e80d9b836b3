-- What is kept of the COMMON blocks of units.
use Rattle.std.specs.Prelude.{◌≡◌, ◌+◌, ◌++◌, ℕ, Bool, not, if◌then◌else◌, unwrap_or, List, [], map, flat_map, filter, length, Option, Some, None, Vec, option_map, bytes_eq, slice_get}
use Rattle.std.specs.List.{list_any, position_or_len}
use Rattle.indexmap.specs.IndexMap.{IndexMap, get}
use Rattle.f77_tree.specs.declared.declarations.CommonPart.{CommonPart}
use Rattle.f77_tree.specs.declared.declarations.Decl.{Decl}
use Rattle.f77_tree.specs.declared.statements.Labelled.{Labelled}
use Rattle.f77_tree.specs.Places.{same_block}
use Rattle.layout_rules.specs.Declarations.{all_commons}
use Rattle.layout_rules.specs.Faults.{answer_or}
use Rattle.declared_names.specs.Described.{described}
use Rattle.declared_names.specs.KeptDeclarations.{said_by}
use Rattle.unit_checks.specs.declared.block_names.BlockNames.{BlockNames}
use Rattle.unit_checks.specs.declared.block_names.BlockTable.{BlockTable}
use Rattle.unit_checks.specs.declared.block_owners.BlockOwners.{BlockOwners}
use Rattle.program_units.specs.Units.{unit_at}
use Rattle.program_units.specs.Entities.{block_list}
use Rattle.program_units.specs.Names.{has_block}
use Rattle.program_units.specs.CallTable.{if_below}
use Rattle.program_units.specs.Refusals.{are_alike, first_with}

-- ---- the names of blocks

abbrev pub names_if : Bool → List (List ℕ) → Option (List (List ℕ))
names_if here names = if here then Some names else None

abbrev pub decl_names : List Decl → List (List ℕ)
decl_names decls = map (λ decl. decl.name) decls

-- the names that are kept under that of a block
abbrev pub names_under : {A S : Type 0} → IndexMap (List ℕ) (Vec (List ℕ) A) S → List ℕ → Option (List (List ℕ))
names_under {A} named name = option_map (λ (names : Vec (List ℕ) A). names.items) (get bytes_eq named name)

-- the names that are kept of a block, where it is there
abbrev pub found_names : BlockNames → Option (List ℕ) → Option (List (List ℕ))
found_names kept None = names_if kept.has_blank kept.blank.items
found_names kept (Some name) = names_under kept.named name

-- those of a block with those of more declarators, where these are the block's
abbrev pub more_if : Bool → Option (List (List ℕ)) → List Decl → Option (List (List ℕ))
more_if own names decls = if own then Some (unwrap_or names [] ++ decl_names decls) else names

-- the names of one part more are kept
abbrev pub HasMore : BlockNames → CommonPart → BlockNames → Type 0
HasMore old part new = (block : Option (List ℕ)) → found_names new block ≡ more_if (same_block part.block block) (found_names old block) part.decls

-- one of the parts is of the block
abbrev pub has_part : List CommonPart → Option (List ℕ) → Bool
has_part parts block = list_any (λ part. same_block part.block block) parts

-- the names of all parts of the block
abbrev pub names_in : List CommonPart → Option (List ℕ) → List (List ℕ)
names_in parts block = flat_map (λ part. decl_names part.decls) (filter (λ part. same_block part.block block) parts)

-- What is kept of parts. A test of blocks passes for one of those that are kept where it does for that of some part.
pub record AreNoted (parts : List CommonPart) (kept : BlockNames) (blocks : List (Option (List ℕ))) : Type 0 where
  pub names : (block : Option (List ℕ)) → found_names kept block ≡ names_if (has_part parts block) (names_in parts block)
  pub tested : (test : Option (List ℕ) → Bool) → list_any test blocks ≡ list_any (λ part. test part.block) parts

pub record IsTableOfBlocks (unit : List Labelled) (table : BlockTable) : Type 0 where
  pub declared : said_by table.declared ≡ described unit
  pub kept : AreNoted (all_commons unit) table.names table.blocks.items

-- what is kept of all units, and of one without statements behind them
pub record AreBlockTables (us : List (List Labelled)) (tables : List BlockTable) : Type 0 where
  pub count : length tables ≡ length us + 1
  pub each : (k : ℕ) (table : BlockTable) → slice_get tables k ≡ Some table → IsTableOfBlocks (unit_at us k) table

-- ---- the first units with blocks

abbrev pub owner_in : BlockOwners → Option (List ℕ) → Option ℕ
owner_in owners None = owners.blank
owner_in owners (Some name) = get bytes_eq owners.named name

-- for each block the unit stays that was kept; where there was none, it is the one that is told
abbrev pub OwnsMore : (old new : BlockOwners) → (told : Option (List ℕ) → Option ℕ) → Type 0
OwnsMore old new told = (block : Option (List ℕ)) → owner_in new block ≡ answer_or (owner_in old block) (told block)

-- the first unit that has the block
abbrev pub block_owner : List (List Labelled) → Option (List ℕ) → Option ℕ
block_owner us block = if_below (position_or_len (λ u. has_block u block) us) (length us)

pub record AreOwners (us : List (List Labelled)) (owners : BlockOwners) : Type 0 where
  pub each : (block : Option (List ℕ)) → owner_in owners block ≡ block_owner us block

-- the names of the block in this unit are others than in the first that has it
abbrev pub is_mismatched_block : List (List Labelled) → List Labelled → Option (List ℕ) → Bool
is_mismatched_block us u block = not (are_alike u (first_with us block) (block_list u block) (block_list (first_with us block) block))
