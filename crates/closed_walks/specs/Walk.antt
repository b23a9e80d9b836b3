-- Walks in a directed graph, as lists of edges, and what is said by them: which nodes are reached, which edges are
-- cycle equivalent, and which two edges are a cut.
use Rattle.std.specs.Prelude.{◌≡◌, ◌≢◌, ℕ, ◌<◌, ◌⊎◌, Bool, false, ◌==◌, ◌||◌, List, [], ◌∷◌}
use Rattle.closed_walks.specs.Graph.{Graph, edge_count, from, to}

-- The edges lead from u to v: each begins where the last one ended.
abbrev pub Walk : Graph → ℕ → List ℕ → ℕ → Type 0
Walk g u [] v = u ≡ v
Walk g u (e ∷ w) v = (e < edge_count g) × (from g e ≡ u) × Walk g (to g e) w v

-- One or more edges, each beginning where the last one ended, the first where the last one ends.
abbrev pub IsClosed : Graph → List ℕ → Type 0
IsClosed g [] = ⊥
IsClosed g (e ∷ w) = Walk g (from g e) (e ∷ w) (from g e)

-- the edge is one of the walk
abbrev pub Holds : List ℕ → ℕ → Type 0
Holds [] e = ⊥
Holds (f ∷ w) e = (f ≡ e) ⊎ Holds w e

-- Two edges are cycle equivalent where every closed walk that holds either holds both.
pub record IsCycleEquivalent (g : Graph) (a b : ℕ) : Type 0 where
  pub forth : (w : List ℕ) → IsClosed g w → Holds w a → Holds w b
  pub back : (w : List ℕ) → IsClosed g w → Holds w b → Holds w a

-- no edge, one edge, either of two
abbrev pub no_edge : ℕ → Bool
no_edge e = false

abbrev pub only : ℕ → ℕ → Bool
only b e = e == b

abbrev pub either : (a b : ℕ) → ℕ → Bool
either a b e = (e == a) || (e == b)

-- the walk holds none of these edges
abbrev pub Avoids : (ℕ → Bool) → List ℕ → Type 0
Avoids avoided [] = Unit {0}
Avoids avoided (e ∷ w) = (avoided e ≡ false) × Avoids avoided w

-- a walk leads from u to v without these edges
pub record Reach (g : Graph) (avoided : ℕ → Bool) (u v : ℕ) : Type 0 where
  pub walk : List ℕ
  pub leads : Walk g u walk v
  pub avoids : Avoids avoided walk

-- each node is reached from each node
abbrev pub IsStrong : Graph → Type 0
IsStrong g = (u v : ℕ) → u < g.nodes → v < g.nodes → Reach g no_edge u v

-- The edge lies on no closed walk of the graph without b.
abbrev pub IsOnlyOnWalksWith : Graph → (b a : ℕ) → Type 0
IsOnlyOnWalksWith g b a = (w : List ℕ) → IsClosed g w → Avoids (only b) w → Holds w a → ⊥

-- The two edges are a cut: of all edges they alone join nodes of a set with nodes outside it.
pub record IsCut (g : Graph) (side : ℕ → Bool) (a b : ℕ) : Type 0 where
  pub first : side (from g a) ≢ side (to g a)
  pub second : side (from g b) ≢ side (to g b)
  pub others : (e : ℕ) → e < edge_count g → e ≢ a → e ≢ b → side (from g e) ≡ side (to g e)
