-- What the names of subroutines become in the expansion.
use Rattle.std.specs.Prelude.{◌≡◌, ℕ, ◌+◌, ◌-◌, ◌^◌, ◌<◌, List, [], ◌∷◌, map, flat_map, length, Option, Some, None, bytes_eq}
use Rattle.std.specs.List.{position, range_with_len}
use Rattle.f77_tree.specs.declared.statements.Labelled.{Labelled}
use Rattle.program_units.specs.declared.new_name.NewName.{NewName}
use Rattle.program_units.specs.declared.new_name.NewName.TheVariants.{Argument as Place, Fixed}
use Rattle.program_units.specs.Entities.{entity_of}
use Rattle.program_units.specs.Names.{name_for, names_of_unit}
use Rattle.program_units.specs.Units.{dummies_of, sub_dummies, sub_name, unit_at, units}
use Rattle.f77_source.specs.Reading.{HasStatements}
use Rattle.copied_names.specs.declared.copied.Becomes.{Becomes}
use Rattle.copied_names.specs.declared.copied.Becomes.TheVariants.{Argument, Named}
use Rattle.copied_names.specs.declared.copied.CopiedName.{CopiedName}

-- the name of a subroutine, whose first statement is SUBROUTINE
abbrev pub subroutine : List Labelled → Option (List ℕ)
subroutine [] = None
subroutine (s ∷ rest) = sub_name s.stmt

-- the dummies in the statement that a unit begins with
abbrev pub first_dummies : List Labelled → List (List ℕ)
first_dummies [] = []
first_dummies (s ∷ rest) = sub_dummies s.stmt

-- no other statement of a subroutine has dummies
abbrev pub HaveDummiesFirst : List (List Labelled) → Type 0
HaveDummiesFirst us = (k : ℕ) → 0 < k → k < length us → dummies_of (unit_at us k) ≡ first_dummies (unit_at us k)

-- the place of an argument, counted from 1, is a word of the machine
abbrev pub HasNextPlace : NewName → Type 0
HasNextPlace (Place place) = place + 1 < 2 ^ 64
HasNextPlace (Fixed name) = Unit {0}

-- what a name becomes in each copy, with places counted from 1
abbrev pub becomes_as : NewName → Becomes
becomes_as (Place place) = Argument (place + 1)
becomes_as (Fixed name) = Named name

-- A dummy becomes the argument at its place, counted from 1. Another name becomes that of what it stands for.
abbrev pub becomes_by : List (List Labelled) → (k : ℕ) → List ℕ → Option ℕ → Becomes
becomes_by us k x (Some place) = Argument (place + 1)
becomes_by us k x None = Named (name_for us (entity_of us k x))

abbrev pub becomes : List (List Labelled) → (k : ℕ) → List ℕ → Becomes
becomes us k x = becomes_by us k x (position (bytes_eq x) (dummies_of (unit_at us k)))

abbrev pub copied_name : List (List Labelled) → (k : ℕ) → (unit : List ℕ) → List ℕ → CopiedName
copied_name us k unit x = record { unit = unit; name = x; becomes = becomes us k x }

abbrev pub names_by : List (List Labelled) → (k : ℕ) → Option (List ℕ) → List CopiedName
names_by us k None = []
names_by us k (Some unit) = map (copied_name us k unit) (names_of_unit (unit_at us k))

-- what the names of the unit k become, in the order in which they first appear
abbrev pub names_in_copies : List (List Labelled) → (k : ℕ) → List CopiedName
names_in_copies us k = names_by us k (subroutine (unit_at us k))

-- what the names of all subroutines become
abbrev pub copied_names : List (List Labelled) → List CopiedName
copied_names us = flat_map (names_in_copies us) (range_with_len 1 (length us - 1))

-- what the names in a text's subroutines become, if it has statements
abbrev pub AreNamesOf : (bytes : List ℕ) → List CopiedName → Type 0
AreNamesOf bytes names = (stmts : List Labelled) → HasStatements bytes stmts → names ≡ copied_names (units stmts)
