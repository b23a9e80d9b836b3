-- A depth-first walk of the undirected view of a graph that isn't at its end.
use Rattle.std.specs.Prelude.{◌≡◌, ◌≢◌, ℕ, zero, suc, ◌+◌, ◌<◌, ◌≤◌, ◌⊎◌, ◌↔◌, Bool, true, false, ◌==◌, if◌then◌else◌, length}
use Rattle.closed_walks.specs.Graph.{Graph, edge_count, touches, touching_below}
use Rattle.cycle_equiv.specs.DepthFirst.{Tree, Joins, IsBelow}

-- What the walk wrote down so far. A node is open from when it is found until the walk leaves it for good; till then its
-- finish is the number of nodes that were found.
pub record Trail : Type 0 where
  pub tree : Tree
  pub found : ℕ → Bool
  pub left : ℕ → Bool
  -- how many edges of the node were taken
  pub taken : ℕ → ℕ
  -- how many nodes were found
  pub count : ℕ

-- how many edges of lower numbers touch the node
abbrev pub earlier : Graph → (node e : ℕ) → ℕ
earlier g node e = length (touching_below g node e)

-- The edge touches the node and was taken there.
pub record IsTaken (g : Graph) (w : Trail) (node e : ℕ) : Type 0 where
  pub edge : e < edge_count g
  pub touched : touches g node e ≡ true
  pub early : earlier g node e < w.taken node

pub record IsOpen (w : Trail) (x : ℕ) : Type 0 where
  pub found : w.found x ≡ true
  pub stays : w.left x ≡ false

-- The node was found by an edge that was taken at its parent.
pub record IsFoundBy (g : Graph) (w : Trail) (x : ℕ) : Type 0 where
  pub parent : w.found (w.tree.parent x) ≡ true
  pub first : w.tree.preorder (w.tree.parent x) < w.tree.preorder x
  pub ends : Joins g (w.tree.parent_edge x) (w.tree.parent x) x
  pub taken : IsTaken g w (w.tree.parent x) (w.tree.parent_edge x)

-- The walk is at the open node u. All other open nodes are its ancestors.
pub record IsTrail (g : Graph) (w : Trail) (u : ℕ) : Type 0 where
  pub root_first : w.tree.preorder w.tree.root ≡ 0
  pub root_open : IsOpen w w.tree.root
  pub here : IsOpen w u
  pub last : (y : ℕ) → IsOpen w y → w.tree.preorder y ≤ w.tree.preorder u
  pub node : (x : ℕ) → w.found x ≡ true → x < g.nodes
  pub in_range : (x : ℕ) → w.found x ≡ true → w.tree.preorder x < w.count
  pub one_place : (x y : ℕ) → w.found x ≡ true → w.found y ≡ true → w.tree.preorder x ≡ w.tree.preorder y → x ≡ y
  pub by_edge : (x : ℕ) → w.found x ≡ true → x ≢ w.tree.root → IsFoundBy g w x
  pub by_parent : (c x : ℕ) → w.found c ≡ true → w.found x ≡ true → x ≢ w.tree.root → c ≢ x → IsBelow w.tree c (w.tree.parent x) ↔ IsBelow w.tree c x
  pub ends_found : (x y e : ℕ) → w.found x ≡ true → IsTaken g w x e → Joins g e x y → w.found y ≡ true
  -- where the walk didn't take the last edge yet
  pub open_finish : (x : ℕ) → IsOpen w x → w.tree.finish x ≡ w.count
  pub before : (x y z e : ℕ) → IsOpen w x → IsOpen w y → y ≢ w.tree.root → w.tree.parent y ≡ x → IsTaken g w x e → Joins g e x z → (e ≡ w.tree.parent_edge y) ⊎ (w.tree.preorder z < w.tree.preorder y)
  -- where it left for good
  pub left_found : (x : ℕ) → w.left x ≡ true → w.found x ≡ true
  pub left_later : (x : ℕ) → w.left x ≡ true → w.tree.preorder x < w.tree.finish x
  pub left_finish : (x : ℕ) → w.left x ≡ true → w.tree.finish x ≤ w.count
  pub left_edges : (x e : ℕ) → w.left x ≡ true → e < edge_count g → touches g x e ≡ true → IsTaken g w x e
  pub left_ends : (x y e : ℕ) → w.left x ≡ true → e < edge_count g → Joins g e x y → w.tree.preorder y < w.tree.finish x
  pub left_above : (x y e : ℕ) → w.left x ≡ true → IsOpen w y → e < edge_count g → Joins g e x y → w.tree.preorder y < w.tree.preorder x
  pub left_apart : (x y : ℕ) → w.left x ≡ true → IsOpen w y → IsBelow w.tree x y → ⊥
  pub nested_left : (c x : ℕ) → w.left c ≡ true → w.found x ≡ true → IsBelow w.tree c x → w.left x ≡ true
  pub nested : (c x : ℕ) → w.left c ≡ true → w.found x ≡ true → IsBelow w.tree c x → w.tree.finish x ≤ w.tree.finish c

-- how many of the nodes below n weren't found
abbrev pub unfound : (ℕ → Bool) → ℕ → ℕ
unfound found zero = 0
unfound found (suc n) = if found n then unfound found n else unfound found n + 1

-- the count is that of the nodes that were found
pub record IsCounted (g : Graph) (w : Trail) : Type 0 where
  pub count : unfound w.found g.nodes + w.count ≡ g.nodes

-- a function that was told another value at one number
abbrev pub put : {A : Type 0} → (ℕ → A) → ℕ → A → ℕ → A
put f x a y = if y == x then a else f y

-- An edge was taken at the node.
abbrev pub taking : Trail → ℕ → Trail
taking w u = record { tree = w.tree; found = w.found; left = w.left; taken = put w.taken u (w.taken u + 1); count = w.count }

-- The edge was taken at the node u and led to v, which wasn't found before.
abbrev pub finding : Trail → (u e v : ℕ) → Trail
finding w u e v = record {
  tree = record {
    root = w.tree.root;
    preorder = put w.tree.preorder v w.count;
    finish = λ x. if w.left x then w.tree.finish x else w.count + 1;
    parent = put w.tree.parent v u;
    parent_edge = put w.tree.parent_edge v e;
  };
  found = put w.found v true;
  left = w.left;
  taken = put (put w.taken u (w.taken u + 1)) v 0;
  count = w.count + 1;
}

-- The node was left for good.
abbrev pub leaving : Trail → ℕ → Trail
leaving w u = record { tree = w.tree; found = w.found; left = put w.left u true; taken = w.taken; count = w.count }

-- The walk is at the root, and took no edge yet.
abbrev pub beginning : ℕ → Trail
beginning root = record {
  tree = record { root = root; preorder = λ x. 0; finish = λ x. 1; parent = λ x. 0; parent_edge = λ x. 0 };
  found = put (λ x. false) root true;
  left = λ x. false;
  taken = λ x. 0;
  count = 1;
}

-- the node at a place
pub record HasPlace (w : Trail) (k : ℕ) : Type 0 where
  pub node : ℕ
  pub found : w.found node ≡ true
  pub exact : w.tree.preorder node ≡ k
