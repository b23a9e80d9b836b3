use Rattle.std.proofs.Common.{◌≡◌, ◌<◌, ◌≤◌, ◌+◌, ◌-◌, ℕ, None, fold, length}
use Rattle.std.specs.List.{range_with_len}
use Rattle.net_board.specs.Nodes.{nodes_of, switches}
use Rattle.net_board.specs.Tokens.{left_for}
use Rattle.op_board.specs.OperationNets.{first_operation}
use Rattle.operation_tables.specs.BoardView.{operation_net_on}
use Rattle.op_net.specs.PlaceSteps.{edge_left}
use Rattle.operation_places.specs.PlacesView.{KeepsCounts, standing}
use Rattle.operation_places.specs.StandingChanges.{room_filled}
use Rattle.op_net.proofs.MadeUp.{LeavesAhead}
use Rattle.op_net.proofs.operating.fill_room.Given as goal

abbrev pub invariant-loop-switch : goal.invariant-loop-switch
invariant-loop-switch g l =
    let x = operation_net_on l.board in
    record {
      filled : fold (edge_left l.edge) (standing l.places) (range_with_len l.switch (l.end - l.switch)) ≡ room_filled x (standing l.fn.places) l.piece l.edge;
      clear : (j : ℕ) → l.switch ≤ j → j < l.end → left_for (standing l.places).tokens j ≡ None;
      edges : length l.places.edges.items ≡ length (nodes_of x.net);
      counted : LeavesAhead x l.fn.places l.places (first_operation x l.piece + l.i) (length (switches x.net l.piece)) (length (range_with_len l.switch (l.end - l.switch)));
      kept : KeepsCounts l.fn.places l.places;
    }
