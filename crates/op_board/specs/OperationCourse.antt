-- How control goes through a net of operations in the program's own order: at each piece from node to node, and then along an edge.
use Rattle.std.specs.Prelude.{ℕ, suc, ◌+◌, ◌-◌, ◌==◌, ◌||◌, nat_lt, if◌then◌else◌, Option, Some, None, Result, Ok, Err}
use Rattle.op_table.specs.declared.Trap.{Trap}
use Rattle.cfg_build.specs.Joined.{is_end}
use Rattle.cfg_build.specs.Passes.{out}
use Rattle.firing.specs.Control.{Course}
use Rattle.net_board.specs.declared.control.Control.{Control}
use Rattle.net_board.specs.ControlCourse.{arrived}
use Rattle.net_board.specs.Nodes.{graph_in, kind_in}
use Rattle.op_board.specs.Effects.{Effect}
use Rattle.op_board.specs.OperationNets.{OperationNet, first_operation, operation_at, operation_count, operation_node_count}
use Rattle.op_board.specs.OperationTokens.{OperationTokens, performed_at}

abbrev pub choice_of : Result Effect Trap → ℕ
choice_of (Err trap) = 0
choice_of (Ok effect) = effect.choice

-- the edge that this operation of the piece tells
abbrev pub decided : OperationNet → OperationTokens → (piece i : ℕ) → ℕ
decided x m piece i = out (graph_in x.net) piece (choice_of (performed_at x m piece (operation_at x piece i)))

-- the edge by which control leaves the piece: its last operation tells it, and where it has none its first node
abbrev pub edge_taken : OperationNet → OperationTokens → Control → ℕ
edge_taken x m c = if c.fired == operation_count x c.piece - 1 then decided x m c.piece c.fired else c.leaves

-- the next node of the piece
abbrev pub due_operation : OperationNet → Control → Option ℕ
due_operation x c = if nat_lt c.fired (operation_node_count x c.piece) then Some (first_operation x c.piece + c.fired) else None

-- Once all nodes of the piece have fired control goes on, but never from the end.
abbrev pub control_after : OperationNet → OperationTokens → Control → Control
control_after x m c =
    if nat_lt (suc c.fired) (operation_node_count x c.piece) || is_end (kind_in x.net c.piece)
    then record { piece = c.piece; fired = suc c.fired; leaves = edge_taken x m c }
    else arrived x.net (edge_taken x m c)

abbrev pub operation_course : OperationNet → Course OperationTokens Control
operation_course x = record { due = λ m c. due_operation x c; moved = control_after x }
