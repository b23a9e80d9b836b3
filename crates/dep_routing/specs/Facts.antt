-- What is known of region trees. No public clause cites this module.
use Rattle.std.specs.Prelude.{◌≡◌, ◌≢◌, ℕ, ◌<◌, ◌⊎◌}
use Rattle.closed_walks.specs.Graph.{Graph}
use Rattle.closed_walks.specs.Region.{IsFlowGraph, IsPassed}
use Rattle.region_tree.specs.Tree.{Tree, entry_of, exit_of, innermost_of, IsNumber, IsIn, IsPart, IsRegionTree}
use Rattle.region_tree.specs.Laws.{HasBorders, AreSeparate, IsOwnRegion, IsTreeRank, above}

pub record TreeFacts (g : Graph) (t : Tree) : Type 0 where
  pub flow : IsFlowGraph g
  pub tree : IsRegionTree g t
  pub borders : (r : ℕ) → IsNumber t r → HasBorders g t r
  pub one_entry : (q r : ℕ) → IsNumber t q → IsNumber t r → entry_of t q ≡ entry_of t r → q ≡ r
  pub one_exit : (q r : ℕ) → IsNumber t q → IsNumber t r → exit_of t q ≡ exit_of t r → q ≡ r
  pub nest : (q r : ℕ) → IsNumber t q → IsNumber t r → q ≢ r → AreSeparate g t q r ⊎ (IsPart g t q r ⊎ IsPart g t r q)
  pub one_way : (q r : ℕ) → IsNumber t q → IsNumber t r → IsPart g t q r → IsPart g t r q → q ≡ r
  pub start : (r : ℕ) → IsNumber t r → IsIn g t r 0 → ⊥
  pub own : (node a b : ℕ) → IsPassed g node a b → 0 ≢ node → IsOwnRegion g t node a b
  pub rank : (rank : ℕ → ℕ) × (bound : ℕ) × IsTreeRank g t rank bound
  pub chain : (r node : ℕ) → IsNumber t r → node < g.nodes → IsIn g t r node → (k : ℕ) × (above t k (innermost_of t node) ≡ r)
