-- Walks that may take an edge from either of its ends, and undirected cycles.
use Rattle.std.specs.Prelude.{◌≡◌, ℕ, ◌<◌, ◌↔◌, Bool, true, false, List, [], ◌∷◌, map}
use Rattle.closed_walks.specs.Graph.{Graph, edge_count, from, to}
use Rattle.closed_walks.specs.Walk.{Holds}

-- An edge, and whether it is taken in its direction: from where it begins to where it ends. Else it is taken back.
abbrev pub Step : Type 0
Step = ℕ × Bool

abbrev pub edge_of : Step → ℕ
edge_of (e, forwards) = e

-- the node that the step leaves
abbrev pub leaves : Graph → Step → ℕ
leaves g (e, true) = from g e
leaves g (e, false) = to g e

-- the node to which the step comes
abbrev pub comes_to : Graph → Step → ℕ
comes_to g (e, true) = to g e
comes_to g (e, false) = from g e

-- The steps lead from u to v: each leaves the node to which the last one came.
abbrev pub UndirectedWalk : Graph → ℕ → List Step → ℕ → Type 0
UndirectedWalk g u [] v = u ≡ v
UndirectedWalk g u (s ∷ w) v = (edge_of s < edge_count g) × (leaves g s ≡ u) × UndirectedWalk g (comes_to g s) w v

-- one or more steps that end where they begin
abbrev pub IsClosedUndirected : Graph → List Step → Type 0
IsClosedUndirected g [] = ⊥
IsClosedUndirected g (s ∷ w) = UndirectedWalk g (leaves g s) (s ∷ w) (leaves g s)

-- no two of these are the same
abbrev pub AllDiffer : List ℕ → Type 0
AllDiffer [] = Unit {0}
AllDiffer (x ∷ xs) = (Holds xs x → ⊥) × AllDiffer xs

-- A closed undirected walk that takes no edge twice and leaves no node twice. An edge that leads back to the node at which it
-- begins is a cycle, and so are two edges between the same two nodes.
pub record IsCycle (g : Graph) (w : List Step) : Type 0 where
  pub closed : IsClosedUndirected g w
  pub edges : AllDiffer (map edge_of w)
  pub nodes : AllDiffer (map (leaves g) w)

-- No cycle has just one of the two edges.
abbrev pub AreOnSameCycles : Graph → (a b : ℕ) → Type 0
AreOnSameCycles g a b = (w : List Step) → IsCycle g w → Holds (map edge_of w) a ↔ Holds (map edge_of w) b
