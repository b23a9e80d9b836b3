-- The lists of brackets that a depth-first walk keeps, while it isn't at its end.
use Rattle.std.specs.Prelude.{◌≡◌, ◌≢◌, ℕ, ◌+◌, ◌<◌, ◌≤◌, ◌⊎◌, ◌↔◌, List, [], length, true, Option, Some}
use Rattle.closed_walks.specs.Graph.{Graph, edge_count}
use Rattle.closed_walks.specs.Walk.{Holds}
use Rattle.cycle_equiv.specs.DepthFirst.{Joins, IsBelow}
use Rattle.cycle_equiv.specs.BracketLists.{AreInOrder, top}
use Rattle.cycle_equiv.specs.Walking.{Trail, IsTaken, IsOpen}
use Rattle.cycle_equiv.specs.TrailReaches.{Reaches, IsUpwards}

-- The capping bracket b leads from the node `low`, which was left, to the node at its second reach.
pub record IsCapping (g : Graph) (w : Trail) (r : Reaches) (b low end : ℕ) : Type 0 where
  pub left : w.left low ≡ true
  pub other : low ≢ w.tree.root
  pub number : b ≡ edge_count g + w.tree.parent_edge low
  pub found : w.found end ≡ true
  pub exact : w.tree.preorder end ≡ r.second low
  pub above : w.tree.preorder end < w.tree.preorder low

-- a bracket or a capping bracket
abbrev pub LeadsUp : Graph → Trail → Reaches → (b low end : ℕ) → Type 0
LeadsUp g w r b low end = IsUpwards g w b low end ⊎ IsCapping g w r b low end

-- A bracket from the node `low` that isn't closed: the walk didn't take the edge at its upper end, or didn't leave the node to
-- which the capping bracket leads.
pub record IsPending (g : Graph) (w : Trail) (r : Reaches) (b low : ℕ) : Type 0 where
  pub end : ℕ
  pub kind : (IsUpwards g w b low end × (IsTaken g w end b → ⊥)) ⊎ (IsCapping g w r b low end × IsOpen w end)

-- Of the open nodes that were found no later than `low`, p is the last.
pub record IsCarrier (w : Trail) (p low : ℕ) : Type 0 where
  pub later : w.tree.preorder p ≤ w.tree.preorder low
  pub last : (y : ℕ) → IsOpen w y → w.tree.preorder y ≤ w.tree.preorder low → w.tree.preorder y ≤ w.tree.preorder p

-- The bracket is pending, and p carries it.
pub record IsCarried (g : Graph) (w : Trail) (r : Reaches) (p b : ℕ) : Type 0 where
  pub low : ℕ
  pub pending : IsPending g w r b low
  pub carrier : IsCarrier w p low

pub record LeadsSomewhere (g : Graph) (w : Trail) (r : Reaches) (b : ℕ) : Type 0 where
  pub low : ℕ
  pub end : ℕ
  pub leads : LeadsUp g w r b low end

-- A list for each edge: that of an open node other than the root has the number of the edge by which it was found, and has the
-- pending brackets that it carries.
pub record AreOpenLists (g : Graph) (w : Trail) (r : Reaches) (lists : ℕ → List ℕ) : Type 0 where
  pub empty : (l : ℕ) → ((x : ℕ) → w.found x ≡ true → x ≢ w.tree.root → w.tree.parent_edge x ≢ l) → lists l ≡ []
  pub bracket : (l b : ℕ) → Holds (lists l) b → LeadsSomewhere g w r b
  pub listed : (p b : ℕ) → IsOpen w p → p ≢ w.tree.root → Holds (lists (w.tree.parent_edge p)) b ↔ IsCarried g w r p b
  pub in_order : (p : ℕ) → IsOpen w p → p ≢ w.tree.root → AreInOrder g w.tree (lists (w.tree.parent_edge p))

-- A node that was left other than the root has the brackets and capping brackets that lead from below it to above it.
pub record IsHeldNow (g : Graph) (w : Trail) (r : Reaches) (c b : ℕ) : Type 0 where
  pub low : ℕ
  pub end : ℕ
  pub leads : LeadsUp g w r b low end
  pub below : IsBelow w.tree c low
  pub above : w.tree.preorder end < w.tree.preorder c

pub record AreLeftLists (g : Graph) (w : Trail) (r : Reaches) (final : ℕ → List ℕ) : Type 0 where
  pub listed : (c b : ℕ) → w.left c ≡ true → c ≢ w.tree.root → Holds (final c) b ↔ IsHeldNow g w r c b
  pub in_order : (c : ℕ) → w.left c ≡ true → c ≢ w.tree.root → AreInOrder g w.tree (final c)

-- a capping bracket leads to y from the node that was found by the edge f
pub record HasCap (g : Graph) (w : Trail) (r : Reaches) (y f : ℕ) : Type 0 where
  pub low : ℕ
  pub cap : IsCapping g w r (edge_count g + f) low y

-- For each place the edges of the nodes whose capping brackets lead there.
pub record AreCaps (g : Graph) (w : Trail) (r : Reaches) (caps : ℕ → List ℕ) : Type 0 where
  pub listed : (y f : ℕ) → IsOpen w y → Holds (caps (w.tree.preorder y)) f ↔ HasCap g w r y f
  pub unused : (k f : ℕ) → w.count ≤ k → Holds (caps k) f → ⊥

-- Each edge that leads nowhere further from the root, and by which no node was found, has the name of itself and one, and an
-- edge by which a node was found that was left has the name of the node's list.
pub record AreNamed (g : Graph) (w : Trail) (final : ℕ → List ℕ) (tops : ℕ → Option ℕ) (sizes : ℕ → ℕ) : Type 0 where
  pub back_edge : (e x z : ℕ) → w.found x ≡ true → IsTaken g w x e → Joins g e x z → w.tree.preorder z ≤ w.tree.preorder x → ((y : ℕ) → w.found y ≡ true → y ≢ w.tree.root → w.tree.parent_edge y ≢ e) → (tops e ≡ Some e) × (sizes e ≡ 1)
  pub tree_edge : (c : ℕ) → w.left c ≡ true → c ≢ w.tree.root → (tops (w.tree.parent_edge c) ≡ top (final c)) × (sizes (w.tree.parent_edge c) ≡ length (final c))
