-- How edges are numbered by their names.
use Rattle.std.specs.Prelude.{◌≡◌, ◌≢◌, ℕ, ◌<◌, ◌↔◌, List, length, take, slice_index}
use Rattle.closed_walks.specs.Numbering.{fresh}

-- One number for each edge: the same for two edges exactly where they have one name, which is a top bracket and a size. An
-- edge whose name no lower one has gets the least number above those of the lower edges.
pub record AreNumbered (tops sizes classes : List ℕ) : Type 0 where
  pub edges : length classes ≡ length tops
  pub same : (a b : ℕ) → a < length tops → b < length tops → (slice_index classes a ≡ slice_index classes b) ↔ ((slice_index tops a ≡ slice_index tops b) × (slice_index sizes a ≡ slice_index sizes b))
  pub lowest : (e : ℕ) → e < length tops → ((d : ℕ) → d < e → slice_index classes d ≢ slice_index classes e) → slice_index classes e ≡ fresh (take e classes)
