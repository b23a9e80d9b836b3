-- The table of a frame, and that of a program, differ in places alone from the table of the names as they are declared.
use Rattle.std.proofs.Common.{◌≡◌, ℕ, ◌+◌, Bool, List, [], ◌∷◌, refl, sym, ap, ◌∙◌}
use Rattle.f77_tree.specs.declared.programs.NameInfo.{NameInfo}
use Rattle.f77_tree.specs.declared.statements.Labelled.{Labelled}
use Rattle.f77_tree.specs.OtherPlaces.{DifferInPlaces, without_places}
use Rattle.layout_rules.specs.Layout.{names_of, placed_from, placed_names, program, spots_of}
use Rattle.layout_rules.specs.Storage.{Spot}
use Rattle.program_units.specs.declared.entity.Entity.{Entity}
use Rattle.program_units.specs.Storage.{placed}

-- an entry at word 0
abbrev bare : NameInfo → NameInfo
bare info = record info { place = 0 }

from-places : (names : List NameInfo) (spots : List Spot) (k : ℕ) (infos : List NameInfo) → without_places (placed_from names spots k infos) ≡ without_places infos
from-places names spots k [] = refl
from-places names spots k (info ∷ rest) = ap (λ (xs : List NameInfo). bare info ∷ xs) (from-places names spots (k + 1) rest)

frame-places : (us : List (List Labelled)) (spot : Entity → ℕ) (k : ℕ) (arguments : List Entity) (infos : List NameInfo) → without_places (placed us spot k arguments infos) ≡ without_places infos
frame-places us spot k arguments [] = refl
frame-places us spot k arguments (info ∷ rest) = ap (λ (xs : List NameInfo). bare info ∷ xs) (frame-places us spot k arguments rest)

pub program-table : (stmts : List Labelled) (checked : Bool) → DifferInPlaces (names_of stmts) (program stmts checked).names
program-table stmts checked = sym (from-places (names_of stmts) (spots_of stmts) 0 (names_of stmts))

pub frame-table : (us : List (List Labelled)) (spot : Entity → ℕ) (k : ℕ) (arguments : List Entity) (stmts : List Labelled) (checked : Bool) → DifferInPlaces (names_of stmts) (placed us spot k arguments (program stmts checked).names)
frame-table us spot k arguments stmts checked = program-table stmts checked ∙ sym (frame-places us spot k arguments (placed_names stmts))
