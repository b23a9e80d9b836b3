-- What `Lines` keeps.
use Rattle.std.specs.Prelude.{◌≡◌, ◌<◌, ℕ, Bool, true, List, [], length, map, slice_index, slice_index_or}
use Rattle.std.specs.List.{range_with_len}
use Rattle.class_set.specs.Members.{IsWidth}
use Rattle.class_set.specs.declared.ClassSet.{ClassSet}
use Rattle.shared_rows.specs.Table.{AreThere, numbered_rows}
use Rattle.dep_routing.specs.Routing.{Routing}
use Rattle.dep_routing.specs.Touch.{touches_in}
use Rattle.dep_routing.specs.declared.edge_rows.EdgeRows.{EdgeRows}
use Rattle.dep_routing.specs.declared.edge_sets.EdgeSets.{EdgeSets}
use Rattle.dep_routing.specs.declared.lines.Lines.TheInside.{Inside}

-- a row for each edge, with a cell for each line
abbrev pub table : {A : Type 0} → (edges lines : ℕ) → (cell : (line e : ℕ) → A) → List (List A)
table edges lines cell = map (λ e. map (λ line. cell line e) (range_with_len 0 lines)) (range_with_len 0 edges)

-- the edge to which the line is led from an edge: what the row of the edge tells, or else the edge itself
abbrev pub led : List (List ℕ) → (line e : ℕ) → ℕ
led rows line e = slice_index_or (slice_index_or rows e []) line e

-- rows for so many edges, with a number for each line
pub record AreEdgeRows (edges lines : ℕ) (rows : EdgeRows) : Type 0 where
  pub wide : rows.table.width ≡ lines
  pub size : length rows.row_of.items ≡ edges
  pub there : AreThere rows.table rows.row_of.items

module _ {W : ℕ} where
  -- whether the line is in the set whose number the edge has
  abbrev pub wire_in : (sets : List (ClassSet W)) → (set_of : List ℕ) → (line e : ℕ) → Bool
  wire_in sets set_of line e = touches_in sets (slice_index set_of e) line

  -- a set for each of so many edges, with lines below a number alone
  pub record AreEdgeSets (edges lines : ℕ) (wires : EdgeSets W) : Type 0 where
    pub size : length wires.set_of.items ≡ edges
    pub there : (e : ℕ) → e < edges → slice_index wires.set_of.items e < length wires.sets.items
    pub within : (line e : ℕ) → e < edges → wire_in wires.sets.items wires.set_of.items line e ≡ true → line < lines

  abbrev pub routing_of : Inside W → Routing
  routing_of d = record {
    lines = d.lines;
    edges = length d.wires.set_of.items;
    next = table (length d.wires.set_of.items) d.lines (led (numbered_rows d.next.table d.next.row_of.items));
    wires = table (length d.wires.set_of.items) d.lines (wire_in d.wires.sets.items d.wires.set_of.items);
  }

  -- the sets of the edges have no other lines, and each edge has its row or none
  pub record IsKept (d : Inside W) : Type 0 where
    pub width : IsWidth W
    pub wires : AreEdgeSets (length d.wires.set_of.items) d.lines d.wires
    pub next : AreEdgeRows (length d.wires.set_of.items) d.lines d.next

-- there is a row for each edge, and in it a cell for each line
pub record HaveRows (r : Routing) : Type 0 where
  pub next : length r.next ≡ r.edges
  pub next_cells : (e : ℕ) → e < r.edges → length (slice_index_or r.next e []) ≡ r.lines
  pub wires : length r.wires ≡ r.edges
  pub wire_cells : (e : ℕ) → e < r.edges → length (slice_index_or r.wires e []) ≡ r.lines
