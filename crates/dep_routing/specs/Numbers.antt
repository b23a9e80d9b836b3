-- For each edge the number of the region of which it is the entry, or the exit. No public clause cites this module.
use Rattle.std.specs.Prelude.{◌≡◌, ◌≢◌, ℕ, ◌<◌, List, length, slice_index}

-- The numbers from 1 and below k stand at their edges, and 0 stands at all others.
pub record AreNumbersBelow (count k : ℕ) (edge_of : ℕ → ℕ) (numbers : List ℕ) : Type 0 where
  pub size : length numbers ≡ count
  pub found : (r : ℕ) → 0 < r → r < k → slice_index numbers (edge_of r) ≡ r
  pub some : (e : ℕ) → slice_index numbers e ≢ 0 → slice_index numbers e < k
  pub right : (e : ℕ) → slice_index numbers e ≢ 0 → edge_of (slice_index numbers e) ≡ e
