use Rattle.std.proofs.Common.{◌≡◌, ◌≤◌, length}
use Rattle.op_board.specs.OperationNets.{operation_count}
use Rattle.operation_tables.specs.PlanView.{operations_in}
use Rattle.operation_tables.specs.ScratchLines.{AreCounted, AreLinked}
use Rattle.operation_tables.proofs.RowFronts.{AreHalfLinked}
use Rattle.operation_tables.proofs.rows.linked_rows.Given as goal

abbrev pub invariant-loop-i : goal.invariant-loop-i
invariant-loop-i g l =
    let x = operations_in l.plan in
    record {
      within : l.i ≤ operation_count x l.piece;
      counted : AreCounted x l.piece (operation_count x l.piece) l.scratch;
      linked : AreLinked x l.piece l.i l.scratch;
      count : length l.rows.items ≡ operation_count x l.piece;
      rows : ∥ AreHalfLinked x l.piece l.i l.rows.items ∥₁;
    }

abbrev pub decreases-loop-i : goal.decreases-loop-i
decreases-loop-i g l = l.i
