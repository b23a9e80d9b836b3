-- Tables that differ in places alone.
use Rattle.std.specs.Prelude.{◌≡◌, List, map}
use Rattle.f77_tree.specs.declared.programs.NameInfo.{NameInfo}

-- the names, each at word 0
abbrev pub without_places : List NameInfo → List NameInfo
without_places names = map (λ (info : NameInfo). record info { place = 0 }) names

-- the same names, with the same kinds and dimensions, at any places
abbrev pub DifferInPlaces : (names others : List NameInfo) → Type 0
DifferInPlaces names others = without_places names ≡ without_places others
