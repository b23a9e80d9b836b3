use Rattle.std.proofs.Common.{◌≡◌, length, take}
use Rattle.f77_meaning.specs.Storage.{memory_of}
use Rattle.op_board.specs.OperationOrder.{ran_at}
use Rattle.operation_tables.specs.BoardView.{operation_net_on}
use Rattle.op_net.specs.PieceValues.{ran_from}
use Rattle.op_net.proofs.piece_performing.give_values.Given as goal

abbrev pub invariant-loop-i : goal.invariant-loop-i
invariant-loop-i g l =
    let x = operation_net_on l.board in
    let m = memory_of l.storage in
    record {
      ran : ran_at x l.piece m ≡ ran_from x l.piece l.i m (take l.i l.values.items);
      room : length l.values.items ≡ length l.fn.values.items;
    }
