-- The marking and the place of control of a net of operations beside those of the net of statements: between two pieces, and past the
-- operations of a piece, the tokens are the same.
use Rattle.std.specs.Prelude.{◌≡◌, ◌<◌, ◌+◌, ◌⊎◌, ℕ, Bool, true, false}
use Rattle.std.specs.List.{range_with_len}
use Rattle.firing.specs.Orders.{after, IsOrder}
use Rattle.net_board.specs.declared.control.Control.{Control}
use Rattle.net_board.specs.NetLockstep.{IsInLockstep}
use Rattle.net_board.specs.SoundNets.{CanCome}
use Rattle.net_board.specs.Nodes.{is_acting, kind_in}
use Rattle.net_board.specs.Tokens.{Tokens}
use Rattle.op_board.specs.OperationNets.{OperationNet, first_operation, operation_count}
use Rattle.op_board.specs.OperationTokens.{OperationTokens, between_pieces, operation_moves}

-- Of the operations of the piece so many have fired as the place tells, since a marking at which the statement is due.
pub record IsAmidOperations (x : OperationNet) (m : OperationTokens) (c : Control) : Type 0 where
  pub start : Tokens
  pub control : Control
  pub lockstep : IsInLockstep x.net start control
  pub can_come : CanCome x.net start
  pub at_first : control.fired ≡ 0
  pub same_piece : control.piece ≡ c.piece
  pub some_left : c.fired < operation_count x c.piece
  pub order : IsOrder (operation_moves x) (between_pieces x start) (range_with_len (first_operation x c.piece) c.fired)
  pub is : m ≡ after (operation_moves x) (between_pieces x start) (range_with_len (first_operation x c.piece) c.fired)

-- one node stands for the operations of such a piece in a net of statements
abbrev pub act_count : Bool → ℕ
act_count true = 1
act_count false = 0

-- All operations of the piece have fired, and of its other nodes as many as in the net of statements; or it has none.
pub record IsPastOperations (x : OperationNet) (m : OperationTokens) (c : Control) : Type 0 where
  pub start : Tokens
  pub control : Control
  pub lockstep : IsInLockstep x.net start control
  pub same_piece : control.piece ≡ c.piece
  pub acted : is_acting (kind_in x.net c.piece) ≡ true → 0 < control.fired
  pub fired : c.fired + act_count (is_acting (kind_in x.net c.piece)) ≡ control.fired + operation_count x c.piece
  pub leaves : 0 < c.fired → c.leaves ≡ control.leaves
  pub is : m ≡ between_pieces x start

abbrev pub IsInOperationLockstep : OperationNet → OperationTokens → Control → Type 0
IsInOperationLockstep x m c = IsAmidOperations x m c ⊎ IsPastOperations x m c
