-- What is known of parents and of the smallest regions that hold nodes after some edges of a scan. No public clause cites this module.
use Rattle.std.specs.Prelude.{◌≡◌, ℕ, ◌<◌, ◌⊎◌, List, [], length, slice_index}
use Rattle.closed_walks.specs.Graph.{Graph}
use Rattle.closed_walks.specs.Walk.{Holds}
use Rattle.region_tree.specs.Scan.{IsHead}
use Rattle.region_tree.specs.Tree.{Tree, IsNumber, IsIn, IsAround, IsLeastOrNone, entry_of}
use Rattle.region_tree.specs.declared.listing.Listing.{Listing}

-- the regions alone
abbrev pub table : (entries exits : List ℕ) → Tree
table entries exits = record { entries = entries; exits = exits; parents = []; innermost = [] }

-- The edges were gone through: what is known of the regions that they enter, and of the start and the nodes at which they end, is right.
pub record IsNested (g : Graph) (t : Tree) (edges parents innermost : List ℕ) : Type 0 where
  pub parents_size : length parents ≡ length t.entries
  pub no_parent : slice_index parents 0 ≡ 0
  pub right_parents : (r : ℕ) → IsNumber t r → Holds edges (entry_of t r) → IsLeastOrNone g t (λ q. IsAround g t r q) (slice_index parents r)
  pub nodes : length innermost ≡ g.nodes
  pub right_innermost : (node : ℕ) → node < g.nodes → (node ≡ 0) ⊎ IsHead g edges node → IsLeastOrNone g t (λ q. IsIn g t q node) (slice_index innermost node)

-- the regions that are listed, before it is known which lie in which
abbrev pub listed : Listing → Tree
listed listing = table listing.entries.items listing.exits.items
