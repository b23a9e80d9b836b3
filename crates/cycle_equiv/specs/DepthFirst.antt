-- Depth-first trees of the undirected view of a graph, in which an edge may be taken from either of its ends.
use Rattle.std.specs.Prelude.{◌≡◌, ◌≢◌, ℕ, ◌<◌, ◌≤◌, ◌⊎◌, ◌↔◌}
use Rattle.std.proofs.Common.{min, max}
use Rattle.closed_walks.specs.Graph.{Graph, IsGraph, edge_count, from, to}
use Rattle.closed_walks.specs.Walk.{IsStrong, IsCycleEquivalent}

-- What a depth-first walk writes down of each node.
pub record Tree : Type 0 where
  pub root : ℕ
  -- the place of the node in the order in which the nodes were found, from 0
  pub preorder : ℕ → ℕ
  -- how many nodes were found when the walk left the node for good
  pub finish : ℕ → ℕ
  -- the node from which the node was found, and the edge by which; nothing is said of the root's
  pub parent : ℕ → ℕ
  pub parent_edge : ℕ → ℕ

-- the edge leads from the one node to the other, or back
abbrev pub Joins : Graph → (e u v : ℕ) → Type 0
Joins g e u v = ((from g e ≡ u) × (to g e ≡ v)) ⊎ ((from g e ≡ v) × (to g e ≡ u))

-- a node that has a parent
pub record IsChild (g : Graph) (t : Tree) (x : ℕ) : Type 0 where
  pub node : x < g.nodes
  pub other : x ≢ t.root

-- an edge by which no node was found
pub record IsBackEdge (g : Graph) (t : Tree) (e : ℕ) : Type 0 where
  pub edge : e < edge_count g
  pub found_none : (x : ℕ) → IsChild g t x → t.parent_edge x ≢ e

-- x is c, or a descendant of c
pub record IsBelow (t : Tree) (c x : ℕ) : Type 0 where
  pub after : t.preorder c ≤ t.preorder x
  pub before : t.preorder x < t.finish c

-- The tree of a depth-first walk that found every node. An edge that is no tree edge joins a node with itself or with one
-- of its descendants.
pub record IsDepthFirst (g : Graph) (t : Tree) : Type 0 where
  pub root_node : t.root < g.nodes
  pub root_first : t.preorder t.root ≡ 0
  pub root_last : (x : ℕ) → x < g.nodes → t.preorder x < t.finish t.root
  pub in_range : (x : ℕ) → x < g.nodes → t.preorder x < g.nodes
  pub one_place : (x y : ℕ) → x < g.nodes → y < g.nodes → t.preorder x ≡ t.preorder y → x ≡ y
  pub left_later : (x : ℕ) → x < g.nodes → t.preorder x < t.finish x
  pub nested : (c x : ℕ) → c < g.nodes → x < g.nodes → IsBelow t c x → t.finish x ≤ t.finish c
  pub parent_node : (x : ℕ) → IsChild g t x → t.parent x < g.nodes
  pub parent_first : (x : ℕ) → IsChild g t x → t.preorder (t.parent x) < t.preorder x
  pub tree_edge : (x : ℕ) → IsChild g t x → t.parent_edge x < edge_count g
  pub tree_ends : (x : ℕ) → IsChild g t x → Joins g (t.parent_edge x) (t.parent x) x
  pub one_child : (x y : ℕ) → IsChild g t x → IsChild g t y → t.parent_edge x ≡ t.parent_edge y → x ≡ y
  pub by_parent : (c x : ℕ) → c < g.nodes → IsChild g t x → c ≢ x → IsBelow t c (t.parent x) ↔ IsBelow t c x
  pub back_ends : (e u v : ℕ) → IsBackEdge g t e → Joins g e u v → t.preorder u ≤ t.preorder v → t.preorder v < t.finish u

-- the places of an edge's ends: of the one that was found first, and of the other
abbrev pub upper_end : Graph → Tree → ℕ → ℕ
upper_end g t e = min (t.preorder (from g e)) (t.preorder (to g e))

abbrev pub lower_end : Graph → Tree → ℕ → ℕ
lower_end g t e = max (t.preorder (from g e)) (t.preorder (to g e))

-- The back edge is a bracket of the tree edge above c: it leads from c or a descendant of c to a node above c.
pub record IsBracket (g : Graph) (t : Tree) (c e : ℕ) : Type 0 where
  pub back : IsBackEdge g t e
  pub after : t.preorder c ≤ lower_end g t e
  pub before : lower_end g t e < t.finish c
  pub above : upper_end g t e < t.preorder c

-- The brackets of the tree edges say which edges are cycle equivalent: two tree edges where they have the same brackets, a
-- tree edge and a back edge where the back edge is the one bracket, and a back edge with no other back edge.
pub record AreToldByBrackets (g : Graph) (t : Tree) : Type 0 where
  pub tree_edges : (c d : ℕ) → IsChild g t c → IsChild g t d → IsCycleEquivalent g (t.parent_edge c) (t.parent_edge d) ↔ ((e : ℕ) → IsBracket g t c e ↔ IsBracket g t d e)
  pub tree_and_back : (c b : ℕ) → IsChild g t c → IsBackEdge g t b → IsCycleEquivalent g (t.parent_edge c) b ↔ ((e : ℕ) → IsBracket g t c e ↔ (e ≡ b))
  pub back_edges : (a b : ℕ) → IsBackEdge g t a → IsBackEdge g t b → IsCycleEquivalent g a b ↔ (a ≡ b)

-- In a strongly connected graph the brackets of any depth-first tree do so.
abbrev pub BracketsTellClasses : Type 0
BracketsTellClasses = (g : Graph) (t : Tree) → IsGraph g → IsStrong g → IsDepthFirst g t → AreToldByBrackets g t
