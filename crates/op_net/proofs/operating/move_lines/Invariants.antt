use Rattle.std.proofs.Common.{◌≡◌, ◌+◌, true, drop, fold, length}
use Rattle.std.specs.List.{list_all}
use Rattle.op_board.specs.OperationNets.{first_operation, needed}
use Rattle.op_board.specs.OperationTokens.{stands_before}
use Rattle.operation_tables.specs.BoardView.{operation_net_on}
use Rattle.op_net.specs.PlaceSteps.{line_moved}
use Rattle.operation_places.specs.PlacesView.{KeepsCounts, standing}
use Rattle.operation_places.specs.StandingChanges.{lines_moved}
use Rattle.op_net.proofs.MadeUp.{LeavesAhead}
use Rattle.op_net.proofs.operating.move_lines.Given as goal

abbrev pub invariant-loop-hop : goal.invariant-loop-hop
invariant-loop-hop g l =
    let x = operation_net_on l.board in
    let left = drop l.hop-index (needed x l.piece l.i) in
    record {
      moved : fold (line_moved x l.piece l.i l.edge) (standing l.places) left ≡ lines_moved x (standing l.fn.places) l.piece l.i l.edge;
      stand : list_all (stands_before x (standing l.places) l.piece l.i) left ≡ true;
      lines : length l.places.lines.items ≡ x.net.routing.lines;
      passed : length l.places.passed.items ≡ x.net.routing.lines;
      counted : LeavesAhead x l.fn.places l.places (first_operation x l.piece + l.i) (length (needed x l.piece l.i)) (length left);
      kept : KeepsCounts l.fn.places l.places;
    }
