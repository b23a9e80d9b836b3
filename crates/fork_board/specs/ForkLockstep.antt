-- The marking and the place of control of the game with groups of loads beside those of a net of operations.
use Rattle.std.specs.Prelude.{◌≡◌, ℕ, List}
use Rattle.firing.specs.Orders.{IsOrder, after}
use Rattle.net_board.specs.declared.control.Control.{Control}
use Rattle.op_board.specs.OperationLockstep.{IsInOperationLockstep}
use Rattle.op_board.specs.OperationNets.{OperationNet}
use Rattle.op_board.specs.OperationTokens.{first_operation_tokens, operation_moves}
use Rattle.fork_board.specs.ForkTokens.{ForkTokens, first_fork_tokens, fork_moves}

-- The marking is one to which an order of a net of operations leads here, and the control is in lockstep there.
pub record IsInForkLockstep (x : OperationNet) (m : ForkTokens) (c : Control) : Type 0 where
  pub order : List ℕ
  pub legal : IsOrder (operation_moves x) (first_operation_tokens x) order
  pub is : m ≡ after (fork_moves x) (first_fork_tokens x) order
  pub lockstep : IsInOperationLockstep x (after (operation_moves x) (first_operation_tokens x) order) c
