-- Entities that have a name in the expansion.
use Rattle.std.specs.Prelude.{◌≡◌, ℕ, ◌<◌, Bool, true, nat_le, nat_lt, if◌then◌else◌, List, length, Option, Some, bytes_eq, slice_get}
use Rattle.std.specs.List.{list_all, list_any}
use Rattle.f77_tree.specs.declared.statements.Labelled.{Labelled}
use Rattle.layout_rules.specs.Appearances.{appearing}
use Rattle.layout_rules.specs.Declarations.{is_array}
use Rattle.program_units.specs.Entities.{Entity, Local, InBlock, block_list, entity_of}
use Rattle.program_units.specs.Expansion.{block_size}
use Rattle.program_units.specs.Names.{is_main, own_names, same_entity, used_names, y_entities}
use Rattle.program_units.specs.Merged.{is_merged}
use Rattle.program_units.specs.Refusals.{is_of_storage}
use Rattle.program_units.specs.Units.{unit_at}

-- the main program has a name for one of its entities, of a block if that has the place
abbrev pub has_main_name : List (List Labelled) → Entity → Bool
has_main_name us (Local k name) = true
has_main_name us (InBlock block place) = nat_lt place (length (block_list (unit_at us 0) block))

-- an entity has a name, that of the main program or one of its own
abbrev pub has_name : List (List Labelled) → Entity → Bool
has_name us e = if is_main us e then has_main_name us e else list_any (same_entity e) (y_entities us)

-- a unit declares an entity: a local of one, or a place of a block in the first that has it
abbrev pub is_declared : List (List Labelled) → Entity → Bool
is_declared us (Local k name) = nat_lt k (length us)
is_declared us (InBlock block place) = nat_lt place (block_size us block)

-- what these names of the unit k stand for has names
abbrev pub HaveNames : List (List Labelled) → (k : ℕ) → (names : List (List ℕ)) → Type 0
HaveNames us k names = (x : List ℕ) → list_any (bytes_eq x) names ≡ true → has_name us (entity_of us k x) ≡ true

-- no name has more than six characters
abbrev pub are_short : List (List ℕ) → Bool
are_short names = list_all (λ x. nat_le (length x) 6) names

-- What the refusals of units leave: a name for each entity, and a unit that declares it.
pub record AreAllNamed (us : List (List Labelled)) : Type 0 where
  pub own : (k : ℕ) → 0 < k → k < length us → HaveNames us k (own_names us k)
  pub stored : (k i : ℕ) (s : Labelled) → 0 < k → k < length us → slice_get (unit_at us k) i ≡ Some s → is_of_storage s.stmt ≡ true → HaveNames us k (appearing (is_array (unit_at us k)) s.stmt)
  pub places : (block : Option (List ℕ)) (place : ℕ) → is_merged us block ≡ true → place < block_size us block → has_name us (InBlock block place) ≡ true
  pub declared : (i : ℕ) (e : Entity) → slice_get (y_entities us) i ≡ Some e → is_declared us e ≡ true
  pub short : are_short (used_names us) ≡ true
