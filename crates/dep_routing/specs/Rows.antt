-- What the rows of edges tell. No public clause cites this module.
use Rattle.std.specs.Prelude.{◌≡◌, ℕ, ◌<◌, ◌==◌, ◌||◌, ◌↔◌, Bool, true, List, Option, None, Some, length, replicate, slice_index}
use Rattle.class_set.specs.declared.ClassSet.{ClassSet}
use Rattle.closed_walks.specs.Graph.{Graph, edge_count}
use Rattle.region_tree.specs.Tree.{Tree}
use Rattle.shared_rows.specs.Table.{Table, row_at, with_row}
use Rattle.dep_routing.specs.Facts.{TreeFacts}
use Rattle.dep_routing.specs.LineTable.{led, wire_in}
use Rattle.dep_routing.specs.Next.{Next}
use Rattle.dep_routing.specs.Noise.{AreNoisy, marks_of}
use Rattle.dep_routing.specs.Order.{is_marked}
use Rattle.dep_routing.specs.Quiet.{IsWire}

-- the number is 0, or a node in the region touches the line
abbrev pub is_noisy : List Bool → ℕ → Bool
is_noisy marks r = (r == 0) || is_marked marks r

-- a row to begin with: a copy of the row with this number, or one that has the other number for each line
abbrev pub begun_row : Table → Option ℕ → ℕ → List ℕ
begun_row t None number = replicate t.width number
begun_row t (Some k) number = row_at t k

-- the table has one more row, with these numbers
pub record IsOneMore (t new : Table) (number : ℕ → ℕ) : Type 0 where
  pub row : List ℕ
  pub is : new ≡ with_row t row
  pub size : length row ≡ t.width
  pub numbers : (line : ℕ) → line < t.width → slice_index row line ≡ number line

module _ {W : ℕ} where
  -- The rows lead each line from each edge to the next one, where the sets tell for each region which lines its nodes touch.
  abbrev pub LeadOn : Tree → (noisy : List (ClassSet W)) → (edges lines : ℕ) → (rows : List (List ℕ)) → Type 0
  LeadOn t noisy edges lines rows = (g : Graph) (touches : ℕ → ℕ → Bool) (line e : ℕ) → TreeFacts g t → AreNoisy g t touches line (marks_of noisy line) → line < lines → e < edges → Next g t touches line e (led rows line e)

  -- The sets tell for each edge of which lines it is a wire.
  abbrev pub TellWires : Graph → Tree → (noisy : List (ClassSet W)) → (lines : ℕ) → (sets : List (ClassSet W)) → (set_of : List ℕ) → Type 0
  TellWires g t noisy lines sets set_of = (touches : ℕ → ℕ → Bool) (line e : ℕ) → AreNoisy g t touches line (marks_of noisy line) → line < lines → e < edge_count g → (wire_in sets set_of line e ≡ true) ↔ IsWire g t touches line e
