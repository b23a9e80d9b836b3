use Rattle.std.proofs.Common.{◌≡◌, ◌≤◌, ◌+◌, ◌++◌, true, drop, fold, length, map, vec_capacity}
use Rattle.std.specs.List.{list_all}
use Rattle.op_board.specs.OperationNets.{first_operation, operation_at}
use Rattle.op_board.specs.OperationTokens.{givers, is_given, operand_in}
use Rattle.operation_tables.specs.BoardView.{operation_net_on}
use Rattle.op_net.specs.PlaceSteps.{operand_taken}
use Rattle.operation_places.specs.PlacesView.{KeepsCounts, standing}
use Rattle.operation_places.specs.StandingChanges.{values_taken}
use Rattle.operation_tables.specs.Waits.{node_total}
use Rattle.op_net.proofs.MadeUp.{LeavesAhead}
use Rattle.op_net.proofs.operating.take_operands.Given as goal

abbrev pub invariant-loop-operand : goal.invariant-loop-operand
invariant-loop-operand g l =
    let x = operation_net_on l.board in
    let operands = (operation_at x l.piece l.i).operands in
    let left = drop l.operand-index operands in
    record {
      args : l.args.items ++ map (operand_in x (standing l.places) l.piece) left ≡ map (operand_in x (standing l.fn.places) l.piece) operands;
      room : vec_capacity l.fn.args ≤ vec_capacity l.args;
      taken : fold (operand_taken x l.piece) (standing l.places) left ≡ values_taken x (standing l.fn.places) l.piece l.i;
      given : list_all (is_given x (standing l.places) l.piece) left ≡ true;
      values : length l.places.values.items ≡ node_total x;
      counted : LeavesAhead x l.fn.places l.places (first_operation x l.piece + l.i) (length (givers x l.piece operands)) (length (givers x l.piece left));
      kept : KeepsCounts l.fn.places l.places;
    }
