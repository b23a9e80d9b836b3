use Rattle.std.proofs.Common.{◌≡◌, ◌++◌, All, drop, map}
use Rattle.round_charts.specs.Grid.{key_drawn, key_in}
use Rattle.round_charts.specs.Picture.{IsCellOn}
use Rattle.round_charts.proofs.picture.cells_of.Given as goal

abbrev pub invariant-loop-cell : goal.invariant-loop-cell
invariant-loop-cell l = record {
  each : map key_drawn l.drawn.items ++ map key_in (drop l.cell-index l.cells) ≡ map key_in l.cells;
  inside : All (IsCellOn l.scale.left l.scale.cell l.page) l.drawn.items;
}
