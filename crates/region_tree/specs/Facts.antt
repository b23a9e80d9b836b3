-- What is known of the regions of a flow graph. No public clause cites this module.
use Rattle.std.specs.Prelude.{◌≡◌, ◌≢◌, ℕ, ◌<◌, ◌↔◌, ◌⊎◌, Bool, true, List, length, take, slice_index_or}
use Rattle.closed_walks.specs.Graph.{Graph, from}
use Rattle.closed_walks.specs.Walk.{Holds, Reach, only}
use Rattle.closed_walks.specs.Region.{IsPair, IsBefore, IsInside, IsEntered, IsRegion, IsRank, IsGrown, IsPassed, AreApart, IsWithin}

-- a test for the nodes between two edges, which the first edge alone enters and the second alone leaves
abbrev pub HasSides : Graph → (a b : ℕ) → Type 0
HasSides g a b = (inside : ℕ → Bool) × ((node : ℕ) → (inside node ≡ true) ↔ IsInside g a b node) × IsEntered g inside a b

pub record RegionFacts (g : Graph) : Type 0 where
  pub sides : (a b : ℕ) → IsPair g a b → HasSides g a b
  pub either : (a b : ℕ) → IsPair g a b → IsBefore g a b ⊎ IsBefore g b a
  pub not_both : (a b : ℕ) → IsPair g a b → IsBefore g a b → IsBefore g b a → ⊥
  pub left : (a b node : ℕ) → IsPair g a b → IsBefore g a b → IsInside g a b node → Reach g (only b) node 0 → ⊥
  pub one_exit : (a b c : ℕ) → IsRegion g a b → IsRegion g a c → b ≡ c
  pub one_entry : (a b c : ℕ) → IsRegion g a b → IsRegion g c b → a ≡ c
  pub by_nodes : (a b c d : ℕ) → IsRegion g a b → IsRegion g c d → ((node : ℕ) → IsInside g a b node ↔ IsInside g c d node) → a ≡ c
  pub nest : (a b c d : ℕ) → IsRegion g a b → IsRegion g c d → a ≢ c → AreApart g a b c d ⊎ (IsWithin g a b c d ⊎ IsWithin g c d a b)
  pub rank : (rank : ℕ → ℕ) × (bound : ℕ) × IsRank g rank bound
  pub grown : (a b : ℕ) (edges : List ℕ) → IsPair g a b → IsBefore g a b → IsGrown g edges → (i : ℕ) → i < length edges → IsInside g a b (from g (slice_index_or edges i 0)) → Holds (take i edges) a
  pub passed_region : (node a b : ℕ) → IsPassed g node a b → 0 ≢ node → IsRegion g a b
  pub passed_inside : (node a b n : ℕ) → IsPassed g node a b → IsInside g a b n ↔ (n ≡ node)
