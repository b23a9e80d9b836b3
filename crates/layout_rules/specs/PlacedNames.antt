-- The table of names with the places that their storages give them.
use Rattle.std.specs.Prelude.{◌≡◌, ℕ, ◌<◌, ◌^◌, false, List, [], ◌∷◌, length, All}
use Rattle.f77_tree.specs.declared.programs.NameInfo.{NameInfo}
use Rattle.layout_rules.specs.StorageFaults.{are_wrong_dims}

-- the names, each with its place
abbrev pub with_places : List NameInfo → (places : List ℕ) → List NameInfo
with_places (info ∷ names) (place ∷ places) = record info { place = place } ∷ with_places names places
with_places _ _ = []

-- no bound lies below the lower one, and there are no more elements than an array may have
abbrev pub HasRightDims : NameInfo → Type 0
HasRightDims info = are_wrong_dims info.dims ≡ false

-- places of names whose dimensions are right: one for each name, and none so great that its words have no numbers of 64 bits
pub record ArePlaces (names : List NameInfo) (places : List ℕ) : Type 0 where
  pub sizes : All HasRightDims names
  pub as_many : length places ≡ length names
  pub few : All (λ place. place < 2 ^ 63) places
