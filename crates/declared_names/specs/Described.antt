-- What the declarations of some statements say of each name, by itself.
use Rattle.std.specs.Prelude.{ℕ, Bool, nat_lt, List, length, Option}
use Rattle.f77_tree.specs.declared.declarations.Dim.{Dim}
use Rattle.f77_tree.specs.declared.declarations.Kind.{Kind}
use Rattle.f77_tree.specs.declared.statements.Labelled.{Labelled}
use Rattle.layout_rules.specs.Declarations.{kind_of, dims_of}

pub record Described : Type 0 where
  pub kind : List ℕ → Option Kind
  pub dims : List ℕ → List Dim

abbrev pub described : List Labelled → Described
described stmts = record { kind = kind_of stmts; dims = dims_of stmts }

-- an array is a name with dimensions
abbrev pub is_array_told : Described → List ℕ → Bool
is_array_told told name = nat_lt 0 (length (told.dims name))
