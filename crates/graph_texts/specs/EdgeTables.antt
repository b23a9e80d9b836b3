-- Tables with a column for each line of tokens and a row for each edge.
use Rattle.std.specs.Prelude.{◌≡◌, ◌<◌, ℕ, Bool}
use Rattle.closed_walks.specs.Graph.{Graph, edge_count}
use Rattle.dep_routing.specs.FreeLines.{is_bypass}
use Rattle.dep_routing.specs.Routing.{Routing, wire_at}
use Rattle.set_columns.specs.Marks.{marked}
use Rattle.set_columns.specs.declared.columns.Columns.{Columns}
use Rattle.graph_texts.specs.declared.edge_tables.EdgeTables.{EdgeTables}

-- an edge is marked for a line where it passes a test
pub record IsTableOf (lines edges : ℕ) (test : (line edge : ℕ) → Bool) (t : Columns) : Type 0 where
  pub columns : t.columns ≡ lines
  pub marks : (line edge : ℕ) → line < lines → edge < edges → marked t line edge ≡ test line edge

-- where it is a wire of the line
abbrev pub AreWires : Graph → Routing → Columns → Type 0
AreWires g r = IsTableOf r.lines (edge_count g) (wire_at r)

-- where the line bypasses the region that it enters
abbrev pub AreBypasses : Graph → Routing → Columns → Type 0
AreBypasses g r = IsTableOf r.lines (edge_count g) (λ line edge. is_bypass g r edge line)

pub record AreTablesOf (g : Graph) (r : Routing) (tables : EdgeTables) : Type 0 where
  pub wires : AreWires g r tables.wires
  pub bypasses : AreBypasses g r tables.bypasses
