-- What is so of the walk at each moment, by what it wrote down.
use Rattle.std.specs.Prelude.{◌≡◌, ℕ, ◌+◌, ◌*◌, ◌^◌, ◌<◌, ◌≤◌, true, false, List, [], length, sum, sum_by, Option, Some, None, unwrap_or, slice_index, slice_index_or, ◌↔◌}
use Rattle.closed_walks.specs.Graph.{Graph, IsGraph, edge_count, edges_at, touches}
use Rattle.closed_walks.specs.Walk.{IsCycleEquivalent}
use Rattle.brackets.specs.Brackets.{IsOnce}
use Rattle.cycle_equiv.specs.CapLists.{caps_total}
use Rattle.cycle_equiv.specs.Walking.{Trail, IsTrail, IsCounted, HasPlace, earlier}
use Rattle.cycle_equiv.specs.TrailReaches.{Reaches, AreReaches}
use Rattle.cycle_equiv.specs.Pending.{AreOpenLists, AreLeftLists, AreCaps, AreNamed}
use Rattle.cycle_equiv.specs.WalkSteps.{HasFewCaps, spent, saved}
use Rattle.cycle_equiv.specs.WalkTables.{IsTable, IsTreeTable, IsReachTable}
use Rattle.cycle_equiv.specs.declared.walk_names.Names.{Names}
use Rattle.cycle_equiv.specs.declared.walk_tree.Mark.{Mark}
use Rattle.cycle_equiv.specs.declared.walk_tree.Mark.TheVariants.{New, Open, Left}
use Rattle.cycle_equiv.specs.declared.walk.BracketWalk.{BracketWalk}

-- the tables of the walk, and what they are tables of
pub record IsKept (g : Graph) (c : BracketWalk) (w : Trail) (r : Reaches) (lists caps : ℕ → List ℕ) (tops : ℕ → Option ℕ) (sizes : ℕ → ℕ) : Type 0 where
  pub tree_table : IsTreeTable g.nodes c.tree w
  pub reach_table : IsReachTable g.nodes c.reaches r
  pub list_table : IsTable (edge_count g) c.lists [] lists
  pub cap_table : IsTable g.nodes c.caps.items [] caps
  pub top_table : IsTable (edge_count g) c.names.tops.items 0 (λ e. unwrap_or (tops e) 0)
  pub size_table : IsTable (edge_count g) c.names.sizes.items 0 sizes

-- a graph whose nodes and edges can be counted
pub record IsCountable (g : Graph) : Type 0 where
  pub sound : IsGraph g
  pub few_nodes : g.nodes < 2 ^ 32
  pub few_edges : edge_count g < 2 ^ 31

-- a list that has no top is empty, and no other
abbrev pub IsTold : (top : Option ℕ) (size : ℕ) → Type 0
IsTold None size = size ≡ 0
IsTold (Some b) size = 0 < size

-- The walk is at the node u: what its tables say of the tree, the reaches, the lists, the capping brackets and the names is
-- what a depth-first walk of the graph has there.
pub record IsWalk (g : Graph) (c : BracketWalk) (u : ℕ) : Type 0 where
  pub trail : Trail
  pub reaches : Reaches
  pub lists : ℕ → List ℕ
  pub caps : ℕ → List ℕ
  pub final : ℕ → List ℕ
  pub tops : ℕ → Option ℕ
  pub sizes : ℕ → ℕ
  pub kept : IsKept g c trail reaches lists caps tops sizes
  pub graph : IsCountable g
  pub is_trail : IsTrail g trail u
  pub counted : IsCounted g trail
  pub places : (k : ℕ) → k < trail.count → HasPlace trail k
  pub none_taken : (x : ℕ) → trail.found x ≡ false → trail.taken x ≡ 0
  pub few_taken : (x : ℕ) → x < g.nodes → trail.taken x ≤ length (edges_at g x)
  pub are_reaches : AreReaches g trail reaches
  pub open_lists : AreOpenLists g trail reaches lists
  pub left_lists : AreLeftLists g trail reaches final
  pub are_caps : AreCaps g trail reaches caps
  pub caps_once : (k : ℕ) → IsOnce (caps k)
  pub named : AreNamed g trail final tops sizes
  pub told : (e : ℕ) → IsTold (tops e) (sizes e)
  pub few_caps : HasFewCaps g.nodes trail reaches

-- the edge is the next one of the node
pub record IsNextEdge (g : Graph) (c : BracketWalk) (u e : ℕ) : Type 0 where
  pub edge : e < edge_count g
  pub touched : touches g u e ≡ true
  pub rank : earlier g u e ≡ slice_index_or c.tree.taken.items u 0

-- Each edge has a name, and the edges of a class are those of one name.
pub record AreNamesOf (g : Graph) (names : Names) : Type 0 where
  pub tops : length names.tops.items ≡ edge_count g
  pub sizes : length names.sizes.items ≡ edge_count g
  pub few : edge_count g < 2 ^ 31
  pub classes : (a b : ℕ) → a < edge_count g → b < edge_count g → IsCycleEquivalent g a b ↔ ((slice_index names.tops.items a ≡ slice_index names.tops.items b) × (slice_index names.sizes.items a ≡ slice_index names.sizes.items b))

-- ---- how far the walk has come

-- The walk is at the node u, and since it began, where `start` steps were counted, it took no more than it could spend: `now` are
-- counted, and each capping bracket that didn't end yet will take one.
pub record IsPaidWalk (g : Graph) (c : BracketWalk) (u start now : ℕ) : Type 0 where
  pub walk : IsWalk g c u
  pub paid : now + caps_total c.caps.items + saved g walk.trail ≤ start + spent g.nodes walk.trail walk.reaches + 1

abbrev pub left_weight : Mark → ℕ
left_weight New = 0
left_weight Open = 0
left_weight Left = 1

-- what rises with each step: two for each end of an edge that was taken, and six for each node that was left
abbrev pub progress : BracketWalk → ℕ
progress c = 2 * sum c.tree.taken.items + 6 * sum_by left_weight c.tree.marks.items
