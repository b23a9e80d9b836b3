-- By which edges firings lead control on.
use Rattle.std.specs.Prelude.{◌≡◌, ◌-◌, ℕ, Some}
use Rattle.net_board.specs.declared.control.Control.{Control}
use Rattle.net_board.specs.ControlPlaces.{IsPlaced}
use Rattle.op_board.specs.OperationCourse.{decided, due_operation}
use Rattle.op_board.specs.OperationNets.{OperationNet, operation_count}
use Rattle.op_board.specs.OperationTokens.{OperationTokens}

-- where the node is due at a place, and is the last operation of its piece, or the first node of a piece without operations, control
-- leaves the piece by this edge
abbrev pub LeadsBy : OperationNet → OperationTokens → (k edge : ℕ) → Type 0
LeadsBy x m k edge = (c : Control) → IsPlaced x.net c → due_operation x c ≡ Some k → c.fired ≡ operation_count x c.piece - 1 → decided x m c.piece c.fired ≡ edge
