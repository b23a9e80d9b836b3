-- What the laws say of a net of operations beside the run of its program.
use Rattle.std.specs.Prelude.{◌≡◌, ◌≤◌, ◌<◌, ◌+◌, ◌*◌, ℕ, List, None, length}
use Rattle.f77_tree.specs.Operations.{most_operations}
use Rattle.f77_tree.specs.Run.{source}
use Rattle.firing.specs.Orders.{after, IsWhole}
use Rattle.firing.specs.Pacing.{IsSimulation}
use Rattle.firing.specs.SourceOrder.{IsDueOrder}
use Rattle.net_board.specs.ControlCourse.{first_control}
use Rattle.net_board.specs.ProgramStages.{program_stage, program_text}
use Rattle.net_board.specs.Simulation.{IsAtEnd, marking_after}
use Rattle.op_board.specs.OperationCourse.{operation_course}
use Rattle.op_board.specs.OperationNets.{OperationNet}
use Rattle.op_board.specs.OperationOrder.{own_operations}
use Rattle.op_board.specs.OperationTokens.{OperationTokens, between_pieces, first_operation_tokens, operation_moves, passed_by, value_at}

-- the marking after the firings of so many steps of the program
abbrev pub operations_after : OperationNet → (steps : ℕ) → OperationTokens
operations_after x steps = after (operation_moves x) (first_operation_tokens x) (own_operations x steps)

-- the source's own order stays in lockstep with the steps of the program
abbrev pub OperationsSimulate : OperationNet → Type 0
OperationsSimulate x = IsSimulation (operation_moves x) (first_operation_tokens x) (program_text x.net) (program_stage x.net) (own_operations x)

-- each firing of so many steps is due in its turn
abbrev pub AreDueInTurn : OperationNet → (steps : ℕ) → Type 0
AreDueInTurn x steps = IsDueOrder (operation_moves x) (operation_course x) (first_operation_tokens x) (first_control x.net) (own_operations x steps)

-- there are few firings for each step: five for each line, and one for each operation that a statement may ask
abbrev pub AreFewOperations : OperationNet → (steps : ℕ) → Type 0
AreFewOperations x steps = length (own_operations x steps) ≤ (5 * x.net.routing.lines + most_operations x.net.program) * steps

-- as long as nothing has trapped, the tokens are those of the net of statements after as many steps
abbrev pub HasTokensAfter : OperationNet → (steps : ℕ) → Type 0
HasTokensAfter x steps = (operations_after x steps).tokens.trap ≡ None → operations_after x steps ≡ between_pieces x (marking_after x.net steps)

-- also where something has trapped, the memory is that of the program
abbrev pub HasProgramMemory : OperationNet → (steps : ℕ) → Type 0
HasProgramMemory x steps = (operations_after x steps).tokens.memory ≡ (source x.net.program x.net.input steps).memory

-- each token line is on edge 0, which leads from the end back to the start, and nothing is left for any switch or taken by no operation
pub record AreAtEnd (x : OperationNet) (m : OperationTokens) : Type 0 where
  pub tokens : IsAtEnd x.net m.tokens
  pub passed : (line : ℕ) → line < x.net.routing.lines → passed_by m line ≡ 0
  pub values : (k : ℕ) → value_at m k ≡ None

-- where no node may fire any more after firings in this order, and nothing has trapped, the net is at the end
abbrev pub OperationsRestAtEnd : OperationNet → (ks : List ℕ) → Type 0
OperationsRestAtEnd x ks = IsWhole (operation_moves x) (first_operation_tokens x) ks → (after (operation_moves x) (first_operation_tokens x) ks).tokens.trap ≡ None → AreAtEnd x (after (operation_moves x) (first_operation_tokens x) ks)
