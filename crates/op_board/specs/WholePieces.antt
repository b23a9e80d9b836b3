-- All nodes of a piece as one step: the marking and the place of control after they have fired one after another.
use Rattle.std.specs.Prelude.{◌≡◌, ℕ, List, flat_map, false, Option, Some, None}
use Rattle.cfg_build.specs.Joined.{is_end}
use Rattle.cfg_build.specs.Passes.{out}
use Rattle.firing.specs.declared.system.Fired.{Fired}
use Rattle.firing.specs.declared.system.Fired.TheVariants.{Moved, Line}
use Rattle.firing.specs.Moves.{newest}
use Rattle.firing.specs.Play.{Way, by_order, moment}
use Rattle.firing.specs.SourceOrder.{FiresTo, newest_after}
use Rattle.net_board.specs.declared.control.Control.{Control}
use Rattle.net_board.specs.ControlCourse.{arrived}
use Rattle.net_board.specs.Nodes.{NetOf, graph_in, kind_in, nodes_at}
use Rattle.net_board.specs.Tokens.{led_from, with_all, written}
use Rattle.net_board.specs.WithinPiece.{moved_by}
use Rattle.op_board.specs.Effects.{Effect, All_done}
use Rattle.op_board.specs.OperationCourse.{operation_course}
use Rattle.op_board.specs.OperationLockstep.{IsInOperationLockstep}
use Rattle.op_board.specs.OperationNets.{OperationNet, operation_node_count}
use Rattle.op_board.specs.OperationOrder.{ran_at}
use Rattle.op_board.specs.OperationTokens.{OperationTokens, operation_moves}
use Rattle.op_board.specs.SoundOperationNets.{OperationsCanCome}

-- the source's own order of a net of operations
abbrev pub own_way : OperationNet → Way OperationTokens Control
own_way x = by_order (operation_moves x) (operation_course x)

-- the lines that the nodes of a piece move: those that it touches, and those of its switches or merges
abbrev pub lines_moved_at : NetOf → (piece : ℕ) → List ℕ
lines_moved_at net piece = flat_map (moved_by net) (nodes_at net piece)

-- The marking after all nodes of a piece have fired, whose last operation had this effect: the lines that they move are led along the
-- edge that it tells, the memory is as it left it, and nothing else has changed.
abbrev pub piece_passed : OperationNet → OperationTokens → (piece : ℕ) → Effect → OperationTokens
piece_passed x m piece last =
    let edge = out (graph_in x.net) piece last.choice in
    record m { tokens = record m.tokens { lines = with_all m.tokens.lines (lines_moved_at x.net piece) (led_from x.net edge); memory = last.memory } }

-- what firings answer, of which the last one writes this text, if any
abbrev pub answer_of : Option (List ℕ) → Fired
answer_of None = Moved
answer_of (Some text) = Line

-- The nodes of a piece fire one after another, and control goes on along the edge that its last operation tells.
pub record PiecePasses (x : OperationNet) (m : OperationTokens) (c : Control) (last : Effect) : Type 0 where
  pub to : FiresTo (own_way x) (moment m (Some c)) (operation_node_count x c.piece) (operation_node_count x c.piece) (answer_of (written last.text)) (moment (piece_passed x m c.piece last) (Some (arrived x.net (out (graph_in x.net) c.piece last.choice))))
  pub line : (old : List ℕ) → newest_after (own_way x) (moment m (Some c)) (operation_node_count x c.piece) old ≡ newest (written last.text) old

-- Where control comes to a piece other than the end, and each of its operations can be performed without a trap, all its nodes fire in
-- the source's own order.
abbrev pub PassesWhole : OperationNet → Type 0
PassesWhole x =
    (m : OperationTokens) (c : Control) (last : Effect) → OperationsCanCome x m → IsInOperationLockstep x m c → c.fired ≡ 0 → is_end (kind_in x.net c.piece) ≡ false → ran_at x c.piece m.tokens.memory ≡ All_done last → PiecePasses x m c last
