-- A storage of words for the entities of a text, whether the program that it comes to has them or not.
use Rattle.std.specs.Prelude.{ℕ, ℤ, Bool, List}
use Rattle.f77_tree.specs.declared.statements.Labelled.{Labelled}
use Rattle.program_units.specs.declared.entity.Entity.{Entity}
use Rattle.program_units.specs.Storage.{IsStorage}

-- places of the words, and what these begin with
pub record HasStorage (us : List (List Labelled)) (checked : Bool) : Type 0 where
  pub spot : Entity → ℕ
  pub words : ℕ
  pub opening : List ℤ
  pub storage : IsStorage us checked spot words opening
