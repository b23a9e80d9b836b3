-- Ranks of regions, and the chain of the regions that hold a node.
use Rattle.std.proofs.Common.{◌≡◌, ◌≢◌, ℕ, zero, suc, ◌<◌, refl, sym, ⊎_elim, arith}
use Rattle.std.proofs.lemmas.Bool.{cases_eq}
use Rattle.closed_walks.specs.Graph.{Graph, edge_count, to}
use Rattle.closed_walks.specs.Region.{IsRegion}
use Rattle.region_tree.specs.Facts.{RegionFacts}
use Rattle.region_tree.specs.Tree.{Tree, entry_of, exit_of, parent_of, innermost_of, IsNumber, IsIn, IsPart, IsLeast, IsAround, IsRegionTree}
use Rattle.region_tree.specs.Laws.{IsTreeRank, above}
use Rattle.region_tree.proofs.Within.{IsOuter, head_outer, entered, left, one_number}

module _ (g : Graph) (f : RegionFacts g) (t : Tree) (s : IsRegionTree g t) where
  -- a parent that isn't 0 is the least region around
  pub parent_least : (r : ℕ) → IsNumber t r → parent_of t r ≢ 0 → IsLeast g t (λ q. IsAround g t r q) (parent_of t r)
  parent_least r number some = ⊎_elim (λ none. absurd (some none.0)) (λ l. l) (s.parents r number)

  abbrev rank_of : ℕ → ℕ
  rank_of = f.rank.0

  inwards : (r q : ℕ) → IsNumber t r → IsNumber t q → IsAround g t r q → rank_of (entry_of t q) < rank_of (entry_of t r)
  inwards r q number other around =
      let region : IsRegion g (entry_of t q) (exit_of t q) = s.regions.sound q other in
      let edge : entry_of t r < edge_count g = (s.regions.sound r number).pair.first in
      let outer : IsOuter g t (entry_of t r) q = head_outer g f t s.regions (entry_of t r) edge q other (λ same. around.0 (one_number g f t s.regions q r other number same)) (around.1 (to g (entry_of t r)) (entered g f t s.regions r number (entry_of t r) refl)) in
      f.rank.2.rises (entry_of t q) (exit_of t q) (entry_of t r) region.pair region.before edge outer.0

  pub IsTreeRank-of : IsTreeRank g t rank_of f.rank.1
  IsTreeRank-of = record {
    below = f.rank.2.below;
    through = λ r number.
        let region : IsRegion g (entry_of t r) (exit_of t r) = s.regions.sound r number in
        f.rank.2.rises (entry_of t r) (exit_of t r) (exit_of t r) region.pair region.before region.pair.second (left g f t s.regions r number (exit_of t r) refl);
    inwards = inwards;
    parents = λ r number some. let l = parent_least r number some in inwards r (parent_of t r) number l.number l.has;
  }

  -- a region that contains another is so many parents above it
  climb : (n q r : ℕ) → IsNumber t q → IsNumber t r → rank_of (entry_of t q) < n → IsPart g t q r → (k : ℕ) × (above t k q ≡ r)
  climb zero q r number other low part = absurd (omega (arith, low))
  climb (suc n) q r number other low part = ⊎_elim
      (λ (same : q ≡ r). (zero, same))
      (λ (apart : q ≢ r). ⊎_elim
      (λ none. absurd (none.1 r other (λ same. apart (sym same), part)))
      (λ (l : IsLeast g t (λ p. IsAround g t q p) (parent_of t q)).
      let less = inwards q (parent_of t q) number l.number l.has in
      let rest = climb n (parent_of t q) r l.number other (omega (arith, less, low)) (l.least r other (λ same. apart (sym same), part)) in
      (suc rest.0, rest.1))
      (s.parents q number))
      (cases_eq q r)

  pub chain : (r node : ℕ) → IsNumber t r → node < g.nodes → IsIn g t r node → (k : ℕ) × (above t k (innermost_of t node) ≡ r)
  chain r node number exists inside = ⊎_elim
      (λ none. absurd (none.1 r number inside))
      (λ (l : IsLeast g t (λ q. IsIn g t q node) (innermost_of t node)). climb f.rank.1 (innermost_of t node) r l.number number (f.rank.2.below (entry_of t (innermost_of t node))) (l.least r number inside))
      (s.innermost node exists)
