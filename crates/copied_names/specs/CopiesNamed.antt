-- What names are in the copies of subroutines.
use Rattle.std.specs.Prelude.{◌≡◌, ℕ, ◌+◌, ◌<◌, ◌≤◌, List, length, Some, slice_get}
use Rattle.f77_tree.specs.declared.statements.Labelled.{Labelled}
use Rattle.program_units.specs.Copies.{change_in}
use Rattle.program_units.specs.declared.entity.Entity.{Entity}
use Rattle.program_units.specs.Names.{name_for}
use Rattle.program_units.specs.Units.{dummies_of, unit_at}
use Rattle.copied_names.specs.CopiedNames.{becomes}
use Rattle.copied_names.specs.declared.copied.Becomes.TheVariants.{Argument, Named}

-- A name of the unit k is changed to the one that is told, and a dummy to the name of the argument at its place.
pub record AreAsTold (us : List (List Labelled)) (k : ℕ) (arguments : List Entity) (changed : List ℕ → List ℕ) : Type 0 where
  pub named : (x new : List ℕ) → becomes us k x ≡ Named new → changed x ≡ new
  pub passed : (x : List ℕ) (place : ℕ) (e : Entity) → becomes us k x ≡ Argument (place + 1) → slice_get arguments place ≡ Some e → changed x ≡ name_for us e

-- So it is in each copy of a subroutine that is passed at most as many arguments as it has dummies.
abbrev pub CopiesAreAsTold : List (List Labelled) → Type 0
CopiesAreAsTold us =
    (depth k base : ℕ) (arguments : List Entity) → 0 < k → length arguments ≤ length (dummies_of (unit_at us k)) → AreAsTold us k arguments (change_in us depth k base arguments).name
