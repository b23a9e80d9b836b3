use Rattle.std.proofs.Common.{◌≡◌, ◌≤◌, take}
use Rattle.operation_tables.specs.BoardView.{operation_net_on}
use Rattle.operation_places.specs.PlacesView.{standing}
use Rattle.operation_places.specs.RowWaits.{hop_stands}
use Rattle.operation_tables.specs.Waits.{failing}
use Rattle.operation_places.proofs.waiting.waits_for_lines.Given as goal

abbrev pub invariant-loop-hop : goal.invariant-loop-hop
invariant-loop-hop g l = record {
  count : l.count ≡ failing (hop_stands (operation_net_on l.board) (standing l.places) l.piece) (take l.hop-index l.hops);
  few : l.count ≤ l.hop-index;
}
