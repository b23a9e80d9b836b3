-- What the laws say of the game with groups of loads beside that of a net of operations and beside the run of the program.
use Rattle.std.specs.Prelude.{◌≡◌, ℕ, List}
use Rattle.firing.specs.Orders.{IsOrder, after, written}
use Rattle.firing.specs.Pacing.{IsSimulation}
use Rattle.firing.specs.SourceOrder.{IsDueOrder}
use Rattle.net_board.specs.ControlCourse.{first_control}
use Rattle.net_board.specs.ProgramStages.{program_stage, program_text}
use Rattle.op_board.specs.OperationNets.{OperationNet}
use Rattle.op_board.specs.OperationOrder.{own_operations}
use Rattle.op_board.specs.OperationTokens.{first_operation_tokens, operation_moves}
use Rattle.fork_board.specs.ForkTokens.{first_fork_tokens, fork_course, fork_moves}

-- An order of a net of operations is one here too, with the same text, trap and memory.
pub record IsForked (x : OperationNet) (ks : List ℕ) : Type 0 where
  pub order : IsOrder (fork_moves x) (first_fork_tokens x) ks
  pub text : written (fork_moves x) (first_fork_tokens x) ks ≡ written (operation_moves x) (first_operation_tokens x) ks
  pub trap : (after (fork_moves x) (first_fork_tokens x) ks).operations.tokens.trap ≡ (after (operation_moves x) (first_operation_tokens x) ks).tokens.trap
  pub memory : (after (fork_moves x) (first_fork_tokens x) ks).operations.tokens.memory ≡ (after (operation_moves x) (first_operation_tokens x) ks).tokens.memory

abbrev pub OrdersAreForked : OperationNet → Type 0
OrdersAreForked x = (ks : List ℕ) → IsOrder (operation_moves x) (first_operation_tokens x) ks → IsForked x ks

-- the source's own order, which is that of a net of operations, stays in lockstep with the steps of the program
abbrev pub ForksSimulate : OperationNet → Type 0
ForksSimulate x = IsSimulation (fork_moves x) (first_fork_tokens x) (program_text x.net) (program_stage x.net) (own_operations x)

-- each firing of so many steps is due in its turn
abbrev pub AreForksDue : OperationNet → (steps : ℕ) → Type 0
AreForksDue x steps = IsDueOrder (fork_moves x) (fork_course x) (first_fork_tokens x) (first_control x.net) (own_operations x steps)
