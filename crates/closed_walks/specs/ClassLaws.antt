-- Laws on classes of edges, as statements.
use Rattle.std.specs.Prelude.{ℕ, ◌<◌, ◌↔◌, Bool, ◌≢◌, ◌≡◌, true}
use Rattle.closed_walks.specs.Graph.{Graph, edge_count, IsGraph}
use Rattle.closed_walks.specs.Walk.{IsCycleEquivalent, IsStrong, IsCut}
use Rattle.closed_walks.specs.Region.{IsPair, IsInside, IsEntered}

-- two different edges of a strong graph are cycle equivalent exactly where they are a cut
abbrev pub CutsAreClasses : Type 0
CutsAreClasses = (g : Graph) (a b : ℕ)
    → IsGraph g → IsStrong g → a < edge_count g → b < edge_count g → a ≢ b
    → IsCycleEquivalent g a b ↔ ((side : ℕ → Bool) × IsCut g side a b)

-- a test tells the nodes between two different edges of one class, which the first alone enters and the second alone leaves
abbrev pub SidesOfClassesAreTold : Type 0
SidesOfClassesAreTold = (g : Graph) (a b : ℕ)
    → IsGraph g → IsStrong g → IsPair g a b
    → (inside : ℕ → Bool) × ((node : ℕ) → (inside node ≡ true) ↔ IsInside g a b node) × IsEntered g inside a b
