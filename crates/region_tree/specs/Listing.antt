-- Entries and exits listed in the order of the entries. No public clause cites this module.
use Rattle.std.specs.Prelude.{◌≡◌, ◌≢◌, ℕ, ◌<◌, ◌≤◌, ◌+◌, List, Option, Some, None, length, slice_index, slice_index_or}

-- what stands at the edge, if anything
abbrev pub next_at : List (Option ℕ) → ℕ → Option ℕ
next_at next e = slice_index_or next e None

-- the number of an edge with a next one is the place at which it is listed
pub record IsListedAt (entries : List ℕ) (e r : ℕ) : Type 0 where
  pub some : 0 < r
  pub within : r < length entries
  pub entry : slice_index entries r ≡ e

abbrev pub HasListed : List ℕ → (e r : ℕ) → Option ℕ → Type 0
HasListed entries e r None = r ≡ 0
HasListed entries e r (Some f) = IsListedAt entries e r

-- After a 0 the edges below k with a next one are listed in their order, each with its next one, and the places are noted at the edges.
pub record IsListing (next : List (Option ℕ)) (k : ℕ) (numbers entries exits : List ℕ) : Type 0 where
  pub some : 0 < length entries
  pub few : length entries ≤ k + 1
  pub exits_size : length exits ≡ length entries
  pub no_entry : slice_index entries 0 ≡ 0
  pub no_exit : slice_index exits 0 ≡ 0
  pub listed : (r : ℕ) → 0 < r → r < length entries → (slice_index entries r < k) × (next_at next (slice_index entries r) ≡ Some (slice_index exits r))
  pub rises : (q r : ℕ) → 0 < q → q < r → r < length entries → slice_index entries q < slice_index entries r
  pub numbers_size : length numbers ≡ k
  pub numbered : (e : ℕ) → e < k → HasListed entries e (slice_index numbers e) (next_at next e)

-- for each edge the number of the region that it enters, or 0
pub record AreEntryNumbers (count : ℕ) (numbers entries : List ℕ) : Type 0 where
  pub size : length numbers ≡ count
  pub entered : (e : ℕ) → e < count → slice_index numbers e ≢ 0 → IsListedAt entries e (slice_index numbers e)
  pub none : (e r : ℕ) → e < count → slice_index numbers e ≡ 0 → IsListedAt entries e r → ⊥
