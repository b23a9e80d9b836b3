-- What a name of a unit stands for: a local of a unit, or a place of a COMMON block.
pub use Rattle.program_units.specs.declared.entity.Entity.{Entity}
pub use Rattle.program_units.specs.declared.entity.Entity.TheVariants.{Local, InBlock}
use Rattle.std.specs.Prelude.{ℕ, if◌then◌else◌, List, map, flat_map, filter, Option, Some, None, bytes_eq, slice_get}
use Rattle.std.specs.List.{list_any, position_or_len}
use Rattle.f77_tree.specs.declared.declarations.CommonPart.{CommonPart}
use Rattle.f77_tree.specs.declared.statements.Labelled.{Labelled}
use Rattle.f77_tree.specs.Places.{same_block}
use Rattle.layout_rules.specs.Declarations.{all_commons}
use Rattle.layout_rules.specs.Faults.{first_answer}
use Rattle.program_units.specs.Units.{unit_at, dummies_of}

-- the names of a block, over all parts of it
abbrev pub block_list : List Labelled → Option (List ℕ) → List (List ℕ)
block_list u block = flat_map (λ part. map (λ decl. decl.name) part.decls) (filter (λ part. same_block part.block block) (all_commons u))

abbrev pub found_in : List Labelled → List ℕ → CommonPart → Option Entity
found_in u name part = if list_any (λ decl. bytes_eq decl.name name) part.decls then Some (InBlock part.block (position_or_len (bytes_eq name) (block_list u part.block))) else None

abbrev pub entity_or : ℕ → List ℕ → Option Entity → Entity
entity_or k name None = Local k name
entity_or k name (Some e) = e

abbrev pub entity_of : List (List Labelled) → ℕ → List ℕ → Entity
entity_of us k name = entity_or k name (first_answer (found_in (unit_at us k) name) (all_commons (unit_at us k)))

abbrev pub entity_at : Entity → Option Entity → Entity
entity_at other None = other
entity_at other (Some e) = e

-- what a name stands for in a unit whose dummies stand for these
abbrev pub stands_for : List (List Labelled) → ℕ → (arguments : List Entity) → List ℕ → Entity
stands_for us k arguments name = entity_at (entity_of us k name) (slice_get arguments (position_or_len (bytes_eq name) (dummies_of (unit_at us k))))
