use Rattle.std.proofs.Common.{◌≡◌, ◌<◌, ◌^◌, ◌+◌, length, map}
use Rattle.std.specs.List.{range_with_len}
use Rattle.op_board.specs.OperationNets.{first_operation, operation_nodes_below}
use Rattle.operation_tables.specs.PlanView.{operations_in}
use Rattle.operation_tables.proofs.names.numbered_nodes.Given as goal

abbrev pub invariant-loop-piece : goal.invariant-loop-piece
invariant-loop-piece g l = record {
  names : l.names ≡ operation_nodes_below (operations_in l.plan) l.piece;
  few : length l.names < 2 ^ 32;
  firsts : l.firsts.items ≡ map (first_operation (operations_in l.plan)) (range_with_len 0 (l.piece + 1));
}
