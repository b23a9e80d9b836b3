-- What the tables of the walk say where they are read.
use Rattle.std.proofs.Common.{◌≡◌, ◌≢◌, ℕ, ◌+◌, ◌-◌, ◌^◌, ◌<◌, ◌≤◌, Bool, true, false, [], ◌∷◌, List, length, get_or, set, slice_get, None, sym, ap, ◌∙◌, subst, inl, inr, ⊎_elim, arith}
use Rattle.brackets.specs.Brackets.{Stands, IsFree, list_at, without}
use Rattle.brackets.proofs.DeleteLemmas.{list_inside}
use Rattle.closed_walks.specs.Graph.{Graph, edge_count, edges_at}
use Rattle.closed_walks.specs.Walk.{Holds}
use Rattle.cycle_equiv.specs.Walking.{Trail, earlier, put}
use Rattle.cycle_equiv.specs.WalkTables.{IsTable, IsTreeTable, HasRow, HasReach, mark_of}
use Rattle.cycle_equiv.specs.WalkState.{IsWalk, IsNextEdge}
use Rattle.cycle_equiv.specs.declared.walk_tree.Mark.{Mark}
use Rattle.cycle_equiv.specs.declared.walk_tree.Mark.TheVariants.{New, Open, Left}
use Rattle.cycle_equiv.specs.declared.walk_tree.TreeTable.{TreeTable}
use Rattle.cycle_equiv.specs.declared.walk.BracketWalk.{BracketWalk}
use Rattle.cycle_equiv.proofs.EdgeAt.{earlier_few}
use Rattle.cycle_equiv.proofs.Steps.{earlier_less}
use Rattle.cycle_equiv.proofs.Tables.{table_inside, table_read, table_set}

-- ---- what stands in a list of brackets

pub stands_holds : (xs : List ℕ) (x : ℕ) → Stands xs x → Holds xs x
stands_holds [] x stands = stands
stands_holds (y ∷ ys) x stands = ⊎_elim (λ here. inl here) (λ (there : Stands ys x). inr (stands_holds ys x there)) stands

pub holds_stands : (xs : List ℕ) (x : ℕ) → Holds xs x → Stands xs x
holds_stands [] x holds = holds
holds_stands (y ∷ ys) x holds = ⊎_elim (λ here. inl here) (λ (there : Holds ys x). inr (holds_stands ys x there)) holds

-- ---- marks

pub mark_new : (found left : Bool) → New ≡ mark_of found left → found ≡ false
mark_new h left same = grind arith

pub mark_open : (found left : Bool) → Open ≡ mark_of found left → (found ≡ true) × (left ≡ false)
mark_open h left same = grind arith

pub mark_left : (found left : Bool) → Left ≡ mark_of found left → left ≡ true
mark_left h left same = grind arith

pub tree_row : (n : ℕ) (t : TreeTable) (w : Trail) → IsTreeTable n t w → (x : ℕ) → x < n → HasRow t x
tree_row n t w kept x node =
    grind (arith, table_inside n New t.marks.items, table_inside n 0 t.taken.items w.taken kept.taken x node, table_inside n 0 t.preorder.items w.tree.preorder kept.preorder x node, table_inside n 0 t.parent.items w.tree.parent kept.parent x node, table_inside n 0 t.parent_edge.items w.tree.parent_edge kept.parent_edge x node)

module _ (g : Graph) (c : BracketWalk) (u : ℕ) (h : IsWalk g c u) where
  pub here_node : u < g.nodes
  here_node = h.is_trail.node u h.is_trail.here.found

  pub row : (x : ℕ) → x < g.nodes → HasRow c.tree x
  row x node = tree_row g.nodes c.tree h.trail h.kept.tree_table x node

  pub reach_row : (x : ℕ) → x < g.nodes → HasReach c.reaches x
  reach_row x node =
      grind (arith, table_inside g.nodes 0 c.reaches.own.items h.reaches.own h.kept.reach_table.own x node, table_inside g.nodes 0 c.reaches.first.items h.reaches.first h.kept.reach_table.first x node, table_inside g.nodes 0 c.reaches.second.items h.reaches.second h.kept.reach_table.second x node)

  -- what is read of a node
  pub read_mark : (x : ℕ) (m : Mark) → x < g.nodes → m ≡ get_or c.tree.marks.items x m → m ≡ mark_of (h.trail.found x) (h.trail.left x)
  read_mark x m node is = table_read g.nodes New c.tree.marks.items (λ y. mark_of (h.trail.found y) (h.trail.left y)) x m (row x node).marks is h.kept.tree_table.marks

  pub read_preorder : (x a : ℕ) → x < g.nodes → a ≡ get_or c.tree.preorder.items x a → a ≡ h.trail.tree.preorder x
  read_preorder x a node is = table_read g.nodes 0 c.tree.preorder.items h.trail.tree.preorder x a (row x node).preorder is h.kept.tree_table.preorder

  pub read_parent : (x a : ℕ) → x < g.nodes → a ≡ get_or c.tree.parent.items x a → a ≡ h.trail.tree.parent x
  read_parent x a node is = table_read g.nodes 0 c.tree.parent.items h.trail.tree.parent x a (row x node).parent is h.kept.tree_table.parent

  pub read_parent_edge : (x a : ℕ) → x < g.nodes → a ≡ get_or c.tree.parent_edge.items x a → a ≡ h.trail.tree.parent_edge x
  read_parent_edge x a node is = table_read g.nodes 0 c.tree.parent_edge.items h.trail.tree.parent_edge x a (row x node).parent_edge is h.kept.tree_table.parent_edge

  pub read_second : (x a : ℕ) → x < g.nodes → a ≡ get_or c.reaches.second.items x a → a ≡ h.reaches.second x
  read_second x a node is = table_read g.nodes 0 c.reaches.second.items h.reaches.second x a (reach_row x node).second is h.kept.reach_table.second

  -- the list of a bracket's number
  pub list_is : (l : ℕ) → l < edge_count g → list_at c.lists l ≡ h.lists l
  list_is l edge = h.kept.list_table.exact l edge

  -- what stands in a list is in the list
  pub stands_in : (l b : ℕ) → Stands (list_at c.lists l) b → Holds (h.lists l) b
  stands_in l b stands = grind (arith, list_inside c.lists l b stands, list_is l, stands_holds (list_at c.lists l) b stands)

  pub in_stands : (l b : ℕ) → l < edge_count g → Holds (h.lists l) b → Stands (list_at c.lists l) b
  in_stands l b edge holds = holds_stands (list_at c.lists l) b (subst (λ xs. Holds xs b) (sym (list_is l edge)) holds)

  pub free_of : (b : ℕ) → ((l : ℕ) → Holds (h.lists l) b → ⊥) → IsFree c.lists b
  free_of b none l stands = none l (stands_in l b stands)

  module _ (e : ℕ) (next : IsNextEdge g c u e) where
    pub rank_is : earlier g u e ≡ h.trail.taken u
    rank_is = next.rank ∙ h.kept.tree_table.taken.exact u here_node

    -- there is room for one more
    pub room : get_or c.tree.taken.items u 0 < 2 ^ 32 - 1
    room = grind (arith, earlier_few g u e)

    pub still_few : h.trail.taken u + 1 ≤ length (edges_at g u)
    unfolding edges_at
    still_few = grind (arith, rank_is, earlier_less g u e (edge_count g) next.touched next.edge)

  -- ---- a list of brackets is changed

  module _ (f : ℕ) (own : f ≡ h.trail.tree.parent_edge u) (edge : f < edge_count g) (new : List (List ℕ)) where
    pub pushed_table : (b : ℕ) → new ≡ set c.lists f (b ∷ list_at c.lists f) → IsTable (edge_count g) new [] (put h.lists (h.trail.tree.parent_edge u) (b ∷ h.lists (h.trail.tree.parent_edge u)))
    pushed_table b is = subst (λ k. IsTable (edge_count g) new [] (put h.lists k (b ∷ h.lists k))) own
        (table_set (edge_count g) [] c.lists new h.lists f (b ∷ h.lists f) edge (is ∙ ap (λ xs. set c.lists f (b ∷ xs)) (list_is f edge)) h.kept.list_table)

    pub deleted_table : (b : ℕ) → new ≡ set c.lists f (without (list_at c.lists f) b) → IsTable (edge_count g) new [] (put h.lists (h.trail.tree.parent_edge u) (without (h.lists (h.trail.tree.parent_edge u)) b))
    deleted_table b is = subst (λ k. IsTable (edge_count g) new [] (put h.lists k (without (h.lists k) b))) own
        (table_set (edge_count g) [] c.lists new h.lists f (without (h.lists f) b) edge (is ∙ ap (λ xs. set c.lists f (without xs b)) (list_is f edge)) h.kept.list_table)

  -- ---- where all edges were taken

  pub taken_all : slice_get (edges_at g u) (get_or c.tree.taken.items u 0) ≡ None → slice_get (edges_at g u) (h.trail.taken u) ≡ None
  taken_all none = subst (λ k. slice_get (edges_at g u) k ≡ None) (h.kept.tree_table.taken.exact u here_node) none

  pub not_at_root : u ≢ c.tree.root → u ≢ h.trail.tree.root
  not_at_root other same = other (same ∙ sym h.kept.tree_table.root)

  pub open_mark : get_or c.tree.marks.items u New ≡ Open
  open_mark = h.kept.tree_table.marks.exact u here_node ∙ ap (λ b. mark_of b (h.trail.left u)) h.is_trail.here.found ∙ ap (mark_of true) h.is_trail.here.stays
