-- A place of control beside a marking, with the laws by which it stays there.
use Rattle.firing.specs.Control.{KeepsStep}
use Rattle.firing.specs.SourceOrder.{IsSourceOrder}
use Rattle.net_board.specs.declared.control.Control.{Control}
use Rattle.op_board.specs.OperationNets.{OperationNet}
use Rattle.fork_board.specs.ForkLockstep.{IsInForkLockstep}
use Rattle.fork_board.specs.ForkTokens.{ForkTokens, fork_course, fork_moves}
use Rattle.fork_board.specs.SoundForks.{ForksCanCome}

-- the place is in step with the marking; firings keep it so, and the node that is due can fire
pub record StaysInForkStep (x : OperationNet) (m : ForkTokens) (c : Control) : Type 0 where
  pub lockstep : IsInForkLockstep x m c
  pub steady : KeepsStep (ForksCanCome x) (fork_moves x) (fork_course x) (IsInForkLockstep x)
  pub ordered : IsSourceOrder (ForksCanCome x) (fork_moves x) (fork_course x) (IsInForkLockstep x)

pub keeps_fork_step : (x : OperationNet) → KeepsStep (ForksCanCome x) (fork_moves x) (fork_course x) (StaysInForkStep x)
keeps_fork_step x = record {
  kept = λ m p k sound in_step can due going. record { lockstep = in_step.steady.kept m p k sound in_step.lockstep can due going; steady = in_step.steady; ordered = in_step.ordered };
}

pub fork_source_order : (x : OperationNet) → IsSourceOrder (ForksCanCome x) (fork_moves x) (fork_course x) (StaysInForkStep x)
fork_source_order x = record {
  fires = λ m p k sound in_step going due. in_step.ordered.fires m p k sound in_step.lockstep going due;
  over = λ m p sound in_step going due. in_step.ordered.over m p sound in_step.lockstep going due;
}
