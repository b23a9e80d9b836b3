-- Runs in the source's own order: that of a net of operations, and that of the game with groups of loads.
use Rattle.std.specs.Prelude.{◌≡◌, ℕ, Some}
use Rattle.firing.specs.declared.playing.PlayEnd.{PlayEnd}
use Rattle.firing.specs.declared.playing.Show.{Show}
use Rattle.firing.specs.Play.{Moment, Way, by_order, moment, shown}
use Rattle.firing.specs.Runs.{IsRun}
use Rattle.net_board.specs.declared.control.Control.{Control}
use Rattle.net_board.specs.ControlCourse.{first_control}
use Rattle.op_board.specs.OperationCourse.{operation_course}
use Rattle.op_board.specs.OperationNets.{OperationNet}
use Rattle.op_board.specs.OperationTokens.{OperationTokens, first_operation_tokens, operation_moves}
use Rattle.fork_board.specs.ForkTokens.{ForkTokens, first_fork_tokens, fork_course, fork_moves}

-- the node that is due fires
abbrev pub operation_way : OperationNet → Way OperationTokens Control
operation_way x = by_order (operation_moves x) (operation_course x)

abbrev pub fork_way : OperationNet → Way ForkTokens Control
fork_way x = by_order (fork_moves x) (fork_course x)

-- before any firing, with control where it begins
abbrev pub operation_start : OperationNet → Moment OperationTokens Control
operation_start x = moment (first_operation_tokens x) (Some (first_control x.net))

abbrev pub fork_start : OperationNet → Moment ForkTokens Control
fork_start x = moment (first_fork_tokens x) (Some (first_control x.net))

-- The game with groups of loads has a run of as many firings with the same end, of which the same is shown.
pub record HasSameRun (x : OperationNet) (limit firings : ℕ) (end : PlayEnd) : Type 0 where
  pub run : IsRun (fork_way x) (fork_start x) limit firings end
  pub same : (show : Show) → shown (fork_way x) show (fork_start x) firings ≡ shown (operation_way x) show (operation_start x) firings

abbrev pub OwnRunsAlike : OperationNet → Type 0
OwnRunsAlike x = (limit firings : ℕ) (end : PlayEnd) → IsRun (operation_way x) (operation_start x) limit firings end → HasSameRun x limit firings end
