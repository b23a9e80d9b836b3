-- What is known of each region tree.
use Rattle.std.proofs.Common.{zero, suc}
use Rattle.std.specs.Prelude.{◌≡◌, ◌≢◌, ℕ, ◌<◌, ◌↔◌, Bool, true, ◌⊎◌}
use Rattle.closed_walks.specs.Graph.{Graph}
use Rattle.closed_walks.specs.Region.{IsEntered, AreApart, IsFlowGraph}
use Rattle.region_tree.specs.Tree.{Tree, entry_of, exit_of, parent_of, IsNumber, IsIn, IsAround, IsRegionTree, IsPart, innermost_of}

-- A test for the nodes of the region, which of all edges the entry alone enters and the exit alone leaves.
abbrev pub HasBorders : Graph → Tree → ℕ → Type 0
HasBorders g t r = (inside : ℕ → Bool) × ((node : ℕ) → (inside node ≡ true) ↔ IsIn g t r node) × IsEntered g inside (entry_of t r) (exit_of t r)

-- the two regions have no node in common
abbrev pub AreSeparate : Graph → Tree → (q r : ℕ) → Type 0
AreSeparate g t q r = AreApart g (entry_of t q) (exit_of t q) (entry_of t r) (exit_of t r)

-- A region with these two edges has a number, and holds the node alone.
pub record IsOwnRegion (g : Graph) (t : Tree) (node a b : ℕ) : Type 0 where
  pub number : ℕ
  pub exists : IsNumber t number
  pub entry : entry_of t number ≡ a
  pub exit : exit_of t number ≡ b
  pub holds : (n : ℕ) → IsIn g t number n ↔ (n ≡ node)

-- Numbers of edges, below a bound, that rise from the entry of a region to its exit, and inwards.
pub record IsTreeRank (g : Graph) (t : Tree) (rank : ℕ → ℕ) (bound : ℕ) : Type 0 where
  pub below : (e : ℕ) → rank e < bound
  pub through : (r : ℕ) → IsNumber t r → rank (entry_of t r) < rank (exit_of t r)
  pub inwards : (r q : ℕ) → IsNumber t r → IsNumber t q → IsAround g t r q → rank (entry_of t q) < rank (entry_of t r)
  pub parents : (r : ℕ) → IsNumber t r → parent_of t r ≢ 0 → rank (entry_of t (parent_of t r)) < rank (entry_of t r)

-- the region that is so many parents above r
abbrev pub above : Tree → (k r : ℕ) → ℕ
above t zero r = r
above t (suc k) r = above t k (parent_of t r)

-- two different regions have no node in common, or one of them lies within the other
abbrev pub AreApartOrNested : Type 0
AreApartOrNested = (g : Graph) (t : Tree) (q r : ℕ)
    → IsFlowGraph g → IsRegionTree g t → IsNumber t q → IsNumber t r → q ≢ r → AreSeparate g t q r ⊎ (IsPart g t q r ⊎ IsPart g t r q)

-- a region that holds a node is its smallest, or comes of it by parents
abbrev pub HoldersAreAChain : Type 0
HoldersAreAChain = (g : Graph) (t : Tree) (r node : ℕ)
    → IsFlowGraph g → IsRegionTree g t → IsNumber t r → node < g.nodes → IsIn g t r node → (k : ℕ) × (above t k (innermost_of t node) ≡ r)
