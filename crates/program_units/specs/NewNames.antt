-- The names of entities in the expansion, as they are kept.
use Rattle.std.specs.Prelude.{◌≡◌, ℕ, ◌+◌, ◌<◌, ◌^◌, Bool, not, List, filter, length, map, take, bytes_eq, true, nat_lt, if◌then◌else◌, Option, Some}
use Rattle.std.specs.List.{list_any, range_with_len, position_or_len}
use Rattle.f77_tree.specs.declared.statements.Labelled.{Labelled}
use Rattle.program_units.specs.Names.{own_numbers, y_text, name_for, names_of_unit}
use Rattle.program_units.specs.declared.new_name.NewName.{NewName}
use Rattle.program_units.specs.declared.new_name.NewName.TheVariants.{Argument, Fixed}
use Rattle.program_units.specs.Units.{dummies_of, unit_at}
use Rattle.program_units.specs.Entities.{entity_of}

-- the name of a number is none of these
abbrev pub is_free_of : (used : List (List ℕ)) → ℕ → Bool
is_free_of used n = not (list_any (bytes_eq (y_text n)) used)

-- the first so many numbers whose names are none of these
abbrev pub first_free : (used : List (List ℕ)) → (count : ℕ) → List ℕ
first_free used count = take count (filter (is_free_of used) (range_with_len 1 (count + length used)))

-- these are the names of so many free numbers, from 1 on
pub record AreFree (used : List (List ℕ)) (count : ℕ) (names : List (List ℕ)) : Type 0 where
  pub tried : ℕ
  pub few : tried < 2 ^ 64
  pub free : names ≡ map y_text (filter (is_free_of used) (range_with_len 1 tried))
  pub as_many : length names ≡ count

-- the names of all entities that get names of their own
abbrev pub own_texts : List (List Labelled) → List (List ℕ)
own_texts us = map y_text (own_numbers us)

-- a dummy becomes its argument, and another name always the same
abbrev pub new_name : List (List Labelled) → (k : ℕ) → List ℕ → NewName
new_name us k x = if nat_lt (position_or_len (bytes_eq x) (dummies_of (unit_at us k))) (length (dummies_of (unit_at us k))) then Argument (position_or_len (bytes_eq x) (dummies_of (unit_at us k))) else Fixed (name_for us (entity_of us k x))

-- each name of the unit k has what it becomes
abbrev pub AreNewNames : List (List Labelled) → (k : ℕ) → (new : List ℕ → Option NewName) → Type 0
AreNewNames us k new = (x : List ℕ) → list_any (bytes_eq x) (names_of_unit (unit_at us k)) ≡ true → new x ≡ Some (new_name us k x)
