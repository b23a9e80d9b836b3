-- Which statement of a flat program an executable belongs to.
use Rattle.std.specs.Prelude.{◌≡◌, ◌⊎◌, ◌+◌, ℕ, List, Some, slice_get}
use Rattle.f77_tree.specs.declared.programs.Exec.{Exec}
use Rattle.flat_programs.specs.declared.statements.FlatLine.{FlatLine}
use Rattle.flat_programs.specs.Executables.{first_of, leading, following}

-- the executable with this index is the first one of the statement at this place, or the one after it
pub record IsExecutableOf (flat : List FlatLine) (place k : ℕ) (exec : Exec) : Type 0 where
  pub statement : FlatLine
  pub there : slice_get flat place ≡ Some statement
  pub which : ((k ≡ first_of flat place) × (leading flat place statement.stmt ≡ exec.kind)) ⊎ ((k ≡ first_of flat place + 1) × (following flat place statement.stmt ≡ Some exec.kind))

-- the executable is one of a statement
pub record IsExecutableOfSome (flat : List FlatLine) (k : ℕ) (exec : Exec) : Type 0 where
  pub place : ℕ
  pub of : IsExecutableOf flat place k exec
