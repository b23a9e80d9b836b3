use Rattle.std.proofs.Common.{◌≡◌, ◌++◌, All, drop, map}
use Rattle.round_charts.specs.Grid.{IsInColumn, IsInGrid, key_in, key_of}
use Rattle.round_charts.proofs.grid.stack.Given as goal

abbrev pub invariant-loop-seat : goal.invariant-loop-seat
invariant-loop-seat l = record {
  firings : l.grid.firings ≡ l.initial.grid.firings;
  inside : All (IsInGrid l.grid.columns l.grid.rows) l.grid.cells.items;
  columns : All IsInColumn l.grid.cells.items;
  each : map key_in l.grid.cells.items ++ map key_of (drop l.seat-index l.order) ≡ map key_of l.order;
}
