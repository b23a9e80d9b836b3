-- How the walk keeps what it wrote down: in lists with a place for each node or edge.
use Rattle.std.specs.Prelude.{◌≡◌, ℕ, ◌<◌, Bool, true, false, List, length, slice_index_or}
use Rattle.cycle_equiv.specs.Walking.{Trail}
use Rattle.cycle_equiv.specs.TrailReaches.{Reaches}
use Rattle.cycle_equiv.specs.declared.walk_tree.Mark.{Mark}
use Rattle.cycle_equiv.specs.declared.walk_tree.Mark.TheVariants.{New, Open, Left}
use Rattle.cycle_equiv.specs.declared.walk_tree.TreeTable.{TreeTable}
use Rattle.cycle_equiv.specs.declared.walk_reaches.ReachTable.{ReachTable}

-- The list has the function's values at the numbers below n.
pub record IsTable {A : Type 0} (n : ℕ) (xs : List A) (default : A) (f : ℕ → A) : Type 0 where
  pub size : length xs ≡ n
  pub exact : (k : ℕ) → k < n → slice_index_or xs k default ≡ f k

-- the mark of a node that was found or not, and left or not
abbrev pub mark_of : (found left : Bool) → Mark
mark_of false left = New
mark_of true false = Open
mark_of true true = Left

-- each list has a place for the node
pub record HasRow (t : TreeTable) (x : ℕ) : Type 0 where
  pub marks : x < length t.marks.items
  pub taken : x < length t.taken.items
  pub preorder : x < length t.preorder.items
  pub parent : x < length t.parent.items
  pub parent_edge : x < length t.parent_edge.items

pub record IsTreeTable (n : ℕ) (t : TreeTable) (w : Trail) : Type 0 where
  pub root : t.root ≡ w.tree.root
  pub count : t.count ≡ w.count
  pub marks : IsTable n t.marks.items New (λ x. mark_of (w.found x) (w.left x))
  pub taken : IsTable n t.taken.items 0 w.taken
  pub preorder : IsTable n t.preorder.items 0 w.tree.preorder
  pub parent : IsTable n t.parent.items 0 w.tree.parent
  pub parent_edge : IsTable n t.parent_edge.items 0 w.tree.parent_edge

pub record HasReach (t : ReachTable) (x : ℕ) : Type 0 where
  pub own : x < length t.own.items
  pub first : x < length t.first.items
  pub second : x < length t.second.items

pub record IsReachTable (n : ℕ) (t : ReachTable) (r : Reaches) : Type 0 where
  pub own : IsTable n t.own.items 0 r.own
  pub first : IsTable n t.first.items 0 r.first
  pub second : IsTable n t.second.items 0 r.second
