-- What is known of blocks while statements are merged, and which statements on storage are.
use Rattle.std.specs.Prelude.{ℕ, Bool, not, ◌&&◌, if◌then◌else◌, List, [], ◌∷◌, filter, length, map, Option}
use Rattle.std.specs.List.{list_any, position_or_len}
use Rattle.f77_tree.specs.declared.statements.Labelled.{Labelled}
use Rattle.program_units.specs.CallTable.{if_below}
use Rattle.program_units.specs.Entities.{Entity}
use Rattle.program_units.specs.Expansion.{blocks, common_of, is_running, type_of, units_but_main}
use Rattle.program_units.specs.Names.{has_block, y_entities}
use Rattle.program_units.specs.Units.{unit_at}

-- the index of the first unit that has a block
abbrev pub first_with_block : List (List Labelled) → Option (List ℕ) → Option ℕ
first_with_block us block = if_below (position_or_len (λ u. has_block u block) us) (length us)

-- a subroutine that runs has the block
abbrev pub is_run_block : List (List Labelled) → Option (List ℕ) → Bool
is_run_block us block = list_any (λ k. has_block (unit_at us k) block) (units_but_main us)

-- a block that is merged: a subroutine that runs has it, and the main program doesn't
abbrev pub is_merged : List (List Labelled) → Option (List ℕ) → Bool
is_merged us block = not (has_block (unit_at us 0) block) && is_run_block us block

-- ---- what is merged

abbrev pub type_if : List (List Labelled) → (line : ℕ) → Entity → List Labelled
type_if us line e = if is_running us e then type_of us line e ∷ [] else []

-- a type statement for each entity of a subroutine that runs
abbrev pub types : List (List Labelled) → (line : ℕ) → List Labelled
types us line = map (type_of us line) (filter (is_running us) (y_entities us))

abbrev pub common_if : List (List Labelled) → (line : ℕ) → Option (List ℕ) → List Labelled
common_if us line block = if is_merged us block then common_of us line block ∷ [] else []

-- a COMMON statement for each block that is merged
abbrev pub commons : List (List Labelled) → (line : ℕ) → List Labelled
commons us line = map (common_of us line) (filter (is_merged us) (blocks us))
