-- A place of control beside a marking, with the laws by which it stays there.
use Rattle.firing.specs.Control.{KeepsStep}
use Rattle.firing.specs.SourceOrder.{IsSourceOrder}
use Rattle.net_board.specs.declared.control.Control.{Control}
use Rattle.op_board.specs.OperationCourse.{operation_course}
use Rattle.op_board.specs.OperationLockstep.{IsInOperationLockstep}
use Rattle.op_board.specs.OperationNets.{OperationNet}
use Rattle.op_board.specs.OperationTokens.{OperationTokens, operation_moves}
use Rattle.op_board.specs.SoundOperationNets.{OperationsCanCome}
use Rattle.op_board.specs.WholePieces.{PassesWhole}

-- the place is in step with the marking; firings keep it so, the node that is due can fire, and all nodes of a piece can in one step
pub record StaysInStep (x : OperationNet) (m : OperationTokens) (c : Control) : Type 0 where
  pub lockstep : IsInOperationLockstep x m c
  pub steady : KeepsStep (OperationsCanCome x) (operation_moves x) (operation_course x) (IsInOperationLockstep x)
  pub ordered : IsSourceOrder (OperationsCanCome x) (operation_moves x) (operation_course x) (IsInOperationLockstep x)
  pub passes : PassesWhole x
