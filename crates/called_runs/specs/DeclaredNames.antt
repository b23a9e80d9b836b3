-- What units declare of names, and of what these stand for.
use Rattle.std.specs.Prelude.{◌≡◌, ℕ, List}
use Rattle.f77_tree.specs.declared.statements.Labelled.{Labelled}
use Rattle.layout_rules.specs.Declarations.{dims_of, kind_of}
use Rattle.program_units.specs.declared.entity.Entity.{Entity}
use Rattle.program_units.specs.Expansion.{declared_in}

-- a name of one unit has the kind and the dimensions of a name of another
pub record AreDeclaredAlike (u v : List Labelled) (x y : List ℕ) : Type 0 where
  pub kinds : kind_of u x ≡ kind_of v y
  pub dims : dims_of u x ≡ dims_of v y

-- a name of a unit has those that an entity was declared with
abbrev pub IsDeclaredAs : List (List Labelled) → (u : List Labelled) → (x : List ℕ) → Entity → Type 0
IsDeclaredAs us u x e = AreDeclaredAlike u (declared_in us e).0 x (declared_in us e).1
