-- Names that are added to a table.
use Rattle.std.specs.Prelude.{◌≡◌, ℕ, ◌+◌, true, List, [], ◌++◌, All, Some, slice_get}
use Rattle.f77_tree.specs.declared.programs.NameInfo.{NameInfo}
use Rattle.f77_tree.specs.Declarations.{NamesDiffer}
use Rattle.f77_tree.specs.Name.{is_name}

-- scalars after the names of a table, with new names, at the words after those of the program, in order
pub record AreNewScalars (names more : List NameInfo) (words : ℕ) : Type 0 where
  pub symbolic : All (λ info. is_name info.name ≡ true) more
  pub scalars : All (λ info. info.dims ≡ []) more
  pub differ : NamesDiffer (names ++ more)
  pub places : (j : ℕ) (info : NameInfo) → slice_get more j ≡ Some info → info.place ≡ words + j
