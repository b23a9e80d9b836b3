-- The place of control stays in step, and the node that is due can fire.
use Rattle.firing.specs.Control.{KeepsStep}
use Rattle.firing.specs.SourceOrder.{IsSourceOrder}
use Rattle.op_board.specs.OperationCourse.{operation_course}
use Rattle.op_board.specs.OperationNets.{OperationNet}
use Rattle.op_board.specs.OperationTokens.{operation_moves}
use Rattle.op_board.specs.SoundOperationNets.{OperationsCanCome}
use Rattle.op_net.specs.StaysInStep.{StaysInStep}

pub keeps_step : (x : OperationNet) → KeepsStep (OperationsCanCome x) (operation_moves x) (operation_course x) (StaysInStep x)
keeps_step x = record {
  kept = λ m p k sound in_step can due going. record {
    lockstep = in_step.steady.kept m p k sound in_step.lockstep can due going;
    steady = in_step.steady;
    ordered = in_step.ordered;
    passes = in_step.passes;
  };
}

pub source_order : (x : OperationNet) → IsSourceOrder (OperationsCanCome x) (operation_moves x) (operation_course x) (StaysInStep x)
source_order x = record {
  fires = λ m p k sound in_step going due. in_step.ordered.fires m p k sound in_step.lockstep going due;
  over = λ m p sound in_step going due. in_step.ordered.over m p sound in_step.lockstep going due;
}
