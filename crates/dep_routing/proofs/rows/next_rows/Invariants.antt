use Rattle.std.proofs.Common.{◌≡◌, ◌<◌, ℕ, Bool, length}
use Rattle.closed_walks.specs.Graph.{Graph}
use Rattle.dep_routing.specs.Facts.{TreeFacts}
use Rattle.dep_routing.specs.LineTable.{led}
use Rattle.shared_rows.specs.Table.{AreThere, numbered_rows}
use Rattle.dep_routing.specs.Noise.{AreNoisy, marks_of}
use Rattle.dep_routing.proofs.RowSteps.{IsLed}
use Rattle.dep_routing.proofs.rows.next_rows.Given as goal

abbrev pub invariant-loop-r : goal.invariant-loop-r
invariant-loop-r g l = record {
  wide : l.table.width ≡ l.lines;
  size : length l.row_of.items ≡ l.edges;
  there : AreThere l.table l.row_of.items;
  led : (g : Graph) (touches : ℕ → ℕ → Bool) (line : ℕ) → TreeFacts g l.t → AreNoisy g l.t touches line (marks_of l.noisy.items line) → line < l.lines → IsLed g l.t touches line l.order l.r-index (led (numbered_rows l.table l.row_of.items) line);
}
