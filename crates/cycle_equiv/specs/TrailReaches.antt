-- How far up the back edges lead that a depth-first walk took so far.
use Rattle.std.specs.Prelude.{◌≡◌, ◌≢◌, ℕ, ◌<◌, ◌≤◌, true}
use Rattle.std.proofs.Common.{min, max}
use Rattle.closed_walks.specs.Graph.{Graph}
use Rattle.cycle_equiv.specs.DepthFirst.{Joins, IsBelow}
use Rattle.cycle_equiv.specs.Walking.{Trail, IsTaken, IsOpen, put}

-- What the walk wrote down of each node.
pub record Reaches : Type 0 where
  -- the place nearest to the root to which a back edge leads from the node, or its own place
  pub own : ℕ → ℕ
  -- the two places nearest to the root to which back edges lead from two of the children that were left or their
  -- descendants, or its own place
  pub first : ℕ → ℕ
  pub second : ℕ → ℕ

-- The edge was taken at x, and leads up to z. It isn't the edge by which x was found.
pub record IsUpwards (g : Graph) (w : Trail) (e x z : ℕ) : Type 0 where
  pub found : w.found x ≡ true
  pub taken : IsTaken g w x e
  pub joins : Joins g e x z
  pub above : w.tree.preorder z < w.tree.preorder x
  pub other : e ≢ w.tree.parent_edge x

-- a child of x that was left
pub record IsLeftChild (w : Trail) (x c : ℕ) : Type 0 where
  pub left : w.left c ≡ true
  pub other : c ≢ w.tree.root
  pub parent : w.tree.parent c ≡ x

-- the place nearest to the root to which back edges lead from the node or its descendants
abbrev pub highest : Reaches → ℕ → ℕ
highest r c = min (r.first c) (r.own c)

-- a back edge that leads from x to this place
pub record LeadsTo (g : Graph) (w : Trail) (x k : ℕ) : Type 0 where
  pub edge : ℕ
  pub end : ℕ
  pub upwards : IsUpwards g w edge x end
  pub exact : w.tree.preorder end ≡ k

-- a child that reaches to this place
pub record HasChild (w : Trail) (r : Reaches) (x k : ℕ) : Type 0 where
  pub child : ℕ
  pub is_child : IsLeftChild w x child
  pub exact : highest r child ≡ k

-- two children, one of which reaches to this place, and the other as far
pub record HasChildren (w : Trail) (r : Reaches) (x k : ℕ) : Type 0 where
  pub one : ℕ
  pub other : ℕ
  pub one_child : IsLeftChild w x one
  pub other_child : IsLeftChild w x other
  pub apart : one ≢ other
  pub one_reach : highest r one ≤ k
  pub exact : highest r other ≡ k

pub record AreReaches (g : Graph) (w : Trail) (r : Reaches) : Type 0 where
  pub own_most : (x : ℕ) → w.found x ≡ true → r.own x ≤ w.tree.preorder x
  pub own_least : (e x z : ℕ) → IsUpwards g w e x z → r.own x ≤ w.tree.preorder z
  pub own_some : (x : ℕ) → w.found x ≡ true → r.own x < w.tree.preorder x → LeadsTo g w x (r.own x)
  pub order : (x : ℕ) → w.found x ≡ true → r.first x ≤ r.second x
  pub second_most : (x : ℕ) → w.found x ≡ true → r.second x ≤ w.tree.preorder x
  pub first_least : (x c : ℕ) → IsLeftChild w x c → r.first x ≤ highest r c
  pub second_least : (x c d k : ℕ) → IsLeftChild w x c → IsLeftChild w x d → c ≢ d → highest r c < k → highest r d < k → r.second x < k
  pub first_some : (x : ℕ) → w.found x ≡ true → r.first x < w.tree.preorder x → HasChild w r x (r.first x)
  pub second_some : (x : ℕ) → w.found x ≡ true → r.second x < w.tree.preorder x → HasChildren w r x (r.second x)
  -- the places to which they lead from open nodes are those of open nodes
  pub own_open : (x z : ℕ) → IsOpen w x → w.found z ≡ true → w.tree.preorder z ≡ r.own x → r.own x < w.tree.preorder x → IsOpen w z
  pub first_open : (x z : ℕ) → IsOpen w x → w.found z ≡ true → w.tree.preorder z ≡ r.first x → r.first x < w.tree.preorder x → IsOpen w z
  pub second_open : (x z : ℕ) → IsOpen w x → w.found z ≡ true → w.tree.preorder z ≡ r.second x → r.second x < w.tree.preorder x → IsOpen w z
  -- the second reach of a node that was left is an ancestor
  pub second_above : (x z : ℕ) → w.left x ≡ true → w.found z ≡ true → w.tree.preorder z ≡ r.second x → r.second x < w.tree.preorder x → IsBelow w.tree z x

-- a back edge was taken from u to the place k
abbrev pub reaching : Reaches → (u k : ℕ) → Reaches
reaching r u k = record { own = put r.own u (min (r.own u) k); first = r.first; second = r.second }

-- the node at the place k was found
abbrev pub starting : Reaches → (v k : ℕ) → Reaches
starting r v k = record { own = put r.own v k; first = put r.first v k; second = put r.second v k }

-- a child of p was left that reaches to the place k
abbrev pub merging : Reaches → (p k : ℕ) → Reaches
merging r p k = record { own = r.own; first = put r.first p (min (r.first p) k); second = put r.second p (min (r.second p) (max (r.first p) k)) }
