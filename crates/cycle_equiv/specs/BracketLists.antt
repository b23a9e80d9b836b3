-- Lists of the brackets of a depth-first tree's edges, with capping brackets, and the names that they give to the edges.
use Rattle.std.proofs.Common.{ltb}
use Rattle.std.specs.Prelude.{◌≡◌, ◌≢◌, ℕ, ◌+◌, ◌-◌, ◌<◌, ◌≤◌, ◌⊎◌, ◌↔◌, List, [], ◌∷◌, length, if◌then◌else◌, Option, Some, None}
use Rattle.closed_walks.specs.Graph.{Graph, IsGraph, edge_count}
use Rattle.closed_walks.specs.Walk.{Holds, IsStrong, IsCycleEquivalent}
use Rattle.cycle_equiv.specs.DepthFirst.{Tree, IsChild, IsBackEdge, IsBelow, IsDepthFirst, upper_end, lower_end}

-- What the walk writes down of brackets.
pub record Brackets : Type 0 where
  -- For each child of a node take the place nearest to the root to which a back edge leads from the child or its descendants.
  -- This is the second least of those places, or the node's own place where no two of them are above the node.
  pub second_reach : ℕ → ℕ
  -- the brackets of the edge by which the node was found, the top first
  pub list : ℕ → List ℕ

-- A back edge leads from c or a descendant of c to a place before k.
pub record LeadsAbove (g : Graph) (t : Tree) (c k e : ℕ) : Type 0 where
  pub back : IsBackEdge g t e
  pub after : t.preorder c ≤ lower_end g t e
  pub before : lower_end g t e < t.finish c
  pub above : upper_end g t e < k

-- The back edge b, as a bracket, leads from the node `low` to the place `reach`.
pub record IsBackBracket (g : Graph) (t : Tree) (b low reach : ℕ) : Type 0 where
  pub back : IsBackEdge g t b
  pub node : low < g.nodes
  pub lower : t.preorder low ≡ lower_end g t b
  pub upper : upper_end g t b ≡ reach

-- The capping bracket b leads from the node `low` to its second reach, where that is above the node. Its number is that of
-- the edge by which the node was found, after the numbers of all edges.
pub record IsCap (g : Graph) (t : Tree) (s : Brackets) (b low reach : ℕ) : Type 0 where
  pub child : IsChild g t low
  pub number : b ≡ edge_count g + t.parent_edge low
  pub reaches : s.second_reach low ≡ reach
  pub above : s.second_reach low < t.preorder low

-- A bracket leads from c or a descendant of c to a place before k.
pub record IsHeld (g : Graph) (t : Tree) (s : Brackets) (k c b : ℕ) : Type 0 where
  pub low : ℕ
  pub reach : ℕ
  pub bracket : IsBackBracket g t b low reach ⊎ IsCap g t s b low reach
  pub below : IsBelow t c low
  pub above : reach < k

-- the place of the node from which a bracket leads
abbrev pub place : Graph → Tree → ℕ → ℕ
place g t b = lower_end g t (if ltb b (edge_count g) then b else b - edge_count g)

-- The one bracket stands above the other: the node from which it leads was found earlier, or it is the same node and its
-- number is greater.
abbrev pub IsOver : Graph → Tree → (b c : ℕ) → Type 0
IsOver g t b c = (place g t b < place g t c) ⊎ ((place g t b ≡ place g t c) × (c < b))

-- each stands above all that come after it
abbrev pub AreInOrder : Graph → Tree → List ℕ → Type 0
AreInOrder g t [] = Unit {0}
AreInOrder g t (b ∷ bs) = ((c : ℕ) → Holds bs c → IsOver g t b c) × AreInOrder g t bs

-- Two different children of x reach as near to the root as the second reach of x.
pub record IsReached (g : Graph) (t : Tree) (s : Brackets) (x : ℕ) : Type 0 where
  pub first : ℕ
  pub second : ℕ
  pub first_child : IsChild g t first
  pub second_child : IsChild g t second
  pub first_parent : t.parent first ≡ x
  pub second_parent : t.parent second ≡ x
  pub apart : first ≢ second
  pub first_edge : ℕ
  pub second_edge : ℕ
  pub first_leads : LeadsAbove g t first (s.second_reach x + 1) first_edge
  pub second_leads : LeadsAbove g t second (s.second_reach x + 1) second_edge
  pub exact : upper_end g t second_edge ≡ s.second_reach x

-- The second reach of a node is as near to the root as the brackets of any two of its children, and is that of two of them
-- where it is above the node. The list of a tree edge has the brackets and capping brackets that lead from below it to above
-- it, in order.
pub record AreBracketLists (g : Graph) (t : Tree) (s : Brackets) : Type 0 where
  pub as_near : (k c d e f : ℕ) → IsChild g t c → IsChild g t d → t.parent c ≡ t.parent d → c ≢ d → k ≤ t.preorder (t.parent c) → LeadsAbove g t c k e → LeadsAbove g t d k f → s.second_reach (t.parent c) < k
  pub reached : (x : ℕ) → IsChild g t x → s.second_reach x < t.preorder x → IsReached g t s x
  pub listed : (c : ℕ) → IsChild g t c → (b : ℕ) → Holds (s.list c) b ↔ IsHeld g t s (t.preorder c) c b
  pub in_order : (c : ℕ) → IsChild g t c → AreInOrder g t (s.list c)

-- the top of a list
abbrev pub top : List ℕ → Option ℕ
top [] = None
top (b ∷ bs) = Some b

-- An edge's name: for a tree edge the top of its list and the length, and for a back edge itself and one.
pub record AreNames (g : Graph) (t : Tree) (s : Brackets) (tops : ℕ → Option ℕ) (sizes : ℕ → ℕ) : Type 0 where
  pub tree_top : (c : ℕ) → IsChild g t c → tops (t.parent_edge c) ≡ top (s.list c)
  pub tree_size : (c : ℕ) → IsChild g t c → sizes (t.parent_edge c) ≡ length (s.list c)
  pub back_top : (b : ℕ) → IsBackEdge g t b → tops b ≡ Some b
  pub back_size : (b : ℕ) → IsBackEdge g t b → sizes b ≡ 1

-- The edges of a class are those of one name.
abbrev pub AreClassNames : Graph → (tops : ℕ → Option ℕ) (sizes : ℕ → ℕ) → Type 0
AreClassNames g tops sizes = (a b : ℕ) → a < edge_count g → b < edge_count g → IsCycleEquivalent g a b ↔ ((tops a ≡ tops b) × (sizes a ≡ sizes b))

-- In a strongly connected graph the names that a depth-first tree gives to the edges are one for each class.
abbrev pub NamesTellClasses : Type 0
NamesTellClasses = (g : Graph) (t : Tree) (s : Brackets) (tops : ℕ → Option ℕ) (sizes : ℕ → ℕ) → IsGraph g → IsStrong g → IsDepthFirst g t → AreBracketLists g t s → AreNames g t s tops sizes → AreClassNames g tops sizes
