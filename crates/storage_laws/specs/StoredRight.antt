-- Declarations and places that are well formed.
use Rattle.std.specs.Prelude.{◌≡◌, List, None}
use Rattle.f77_tree.specs.declared.programs.Program.{Program}
use Rattle.f77_tree.specs.declared.statements.Labelled.{Labelled}
use Rattle.f77_tree.specs.Places.{ArePlaces, equations}
use Rattle.f77_tree.specs.WellFormed.{AreDeclarations}
use Rattle.layout_rules.specs.Faults.{first_line}
use Rattle.layout_rules.specs.Layout.{names_of, placed_names}
use Rattle.layout_rules.specs.StorageFaults.{has_wrong_storage}

-- no statement has a fault of storage
abbrev pub HasNoStorageFault : List Labelled → Type 0
HasNoStorageFault stmts = first_line (has_wrong_storage (names_of stmts) (placed_names stmts) stmts) stmts ≡ None

-- the declarations of the program and the places of its names are well formed
pub record IsStored (p : Program) : Type 0 where
  pub declarations : AreDeclarations p.names p.commons p.groups p.inits
  pub places : ArePlaces p.names p.commons (equations p.names p.commons p.groups) p.words
