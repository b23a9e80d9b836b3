-- Regions: an edge, the next edge of its class, and the nodes between the two. Node 0 is the start.
use Rattle.std.specs.Prelude.{◌≡◌, ◌≢◌, ℕ, ◌<◌, ◌⊎◌, Bool, true, false, List, length, take, slice_index_or}
use Rattle.closed_walks.specs.Graph.{Graph, IsGraph, edge_count, from, to}
use Rattle.closed_walks.specs.Walk.{Walk, Holds, Reach, only, IsStrong, IsCycleEquivalent}

-- A strongly connected graph whose edge 0 ends at the start: a flow graph with an edge from its end back to its start.
pub record IsFlowGraph (g : Graph) : Type 0 where
  pub sound : IsGraph g
  pub strong : IsStrong g
  pub some : 0 < edge_count g
  pub start : to g 0 ≡ 0

-- two different edges of one class
pub record IsPair (g : Graph) (a b : ℕ) : Type 0 where
  pub first : a < edge_count g
  pub second : b < edge_count g
  pub apart : a ≢ b
  pub same : IsCycleEquivalent g a b

-- From the start the edge a is met with no b before it.
abbrev pub IsBefore : Graph → (a b : ℕ) → Type 0
IsBefore g a b = Reach g (only b) 0 (from g a)

-- The node lies after a and before b: it is reached from where a ends without b.
abbrev pub IsInside : Graph → (a b node : ℕ) → Type 0
IsInside g a b node = Reach g (only b) (to g a) node

-- Of all edges a alone enters the set, and b alone leaves it.
pub record IsEntered (g : Graph) (inside : ℕ → Bool) (a b : ℕ) : Type 0 where
  pub head : inside (to g a) ≡ true
  pub tail : inside (from g a) ≡ false
  pub exit_tail : inside (from g b) ≡ true
  pub exit_head : inside (to g b) ≡ false
  pub others : (e : ℕ) → e < edge_count g → e ≢ a → e ≢ b → inside (from g e) ≡ inside (to g e)

-- From the start b is the next edge of its class after a.
pub record IsRegion (g : Graph) (a b : ℕ) : Type 0 where
  pub pair : IsPair g a b
  pub before : IsBefore g a b
  pub next : (c : ℕ) → c < edge_count g → c ≢ a → c ≢ b → IsCycleEquivalent g a c → IsBefore g c a ⊎ IsBefore g b c

-- Numbers below a bound that are less for the first edge of a class's two than for each edge that begins between them.
pub record IsRank (g : Graph) (rank : ℕ → ℕ) (bound : ℕ) : Type 0 where
  pub below : (e : ℕ) → rank e < bound
  pub rises : (a b e : ℕ) → IsPair g a b → IsBefore g a b → e < edge_count g → IsInside g a b (from g e) → rank a < rank e

-- A walk from the start to the node has edges of the list alone.
pub record IsReachedBy (g : Graph) (edges : List ℕ) (node : ℕ) : Type 0 where
  pub walk : List ℕ
  pub leads : Walk g 0 walk node
  pub among : (e : ℕ) → Holds walk e → Holds edges e

-- Each edge of the list begins where the edges before it in the list lead from the start.
abbrev pub IsGrown : Graph → List ℕ → Type 0
IsGrown g edges = (i : ℕ) → i < length edges → IsReachedBy g (take i edges) (from g (slice_index_or edges i 0))

-- no node lies between the one two edges and between the other two
abbrev pub AreApart : Graph → (a b c d : ℕ) → Type 0
AreApart g a b c d = (node : ℕ) → IsInside g a b node → IsInside g c d node → ⊥

-- each node between a and b lies between c and d
abbrev pub IsWithin : Graph → (a b c d : ℕ) → Type 0
IsWithin g a b c d = (node : ℕ) → IsInside g a b node → IsInside g c d node

-- the node has one edge to it, a, and one from it, b, which is another
pub record IsPassed (g : Graph) (node a b : ℕ) : Type 0 where
  pub entry : a < edge_count g
  pub exit : b < edge_count g
  pub apart : a ≢ b
  pub in_ends : to g a ≡ node
  pub out_begins : from g b ≡ node
  pub one_in : (e : ℕ) → e < edge_count g → to g e ≡ node → e ≡ a
  pub one_out : (e : ℕ) → e < edge_count g → from g e ≡ node → e ≡ b
