-- What lower layers tell of nets whose operations fire in turn, told of their games.
use Rattle.std.proofs.Common.{◌≢◌, ◌≤◌, ℕ, List, length, Some, refl, ap}
use Rattle.f77_tree.specs.Execution.{Memory}
use Rattle.firing.specs.declared.playing.PlayEnd.{PlayEnd}
use Rattle.firing.specs.declared.playing.PlayEnd.TheVariants.{Limit}
use Rattle.firing.specs.Orders.{IsOver, after}
use Rattle.firing.specs.Pacing.{FollowsSource, IsSimulation, Stage}
use Rattle.firing.specs.Play.{by_order, moment}
use Rattle.firing.specs.Runs.{IsRun}
use Rattle.firing.specs.SourceOrder.{IsDueOrder}
use Rattle.net_board.specs.declared.control.Control.{Control}
use Rattle.net_board.specs.ControlCourse.{first_control}
use Rattle.net_board.specs.ProgramStages.{program_stage, program_text}
use Rattle.op_board.specs.OperationCourse.{operation_course}
use Rattle.op_board.specs.OperationNets.{OperationNet}
use Rattle.op_board.specs.OperationOrder.{own_operations}
use Rattle.op_board.specs.OperationSimulation.{AreDueInTurn, AreFewOperations, HasProgramMemory, OperationsSimulate}
use Rattle.op_board.specs.OperationTokens.{OperationTokens, first_operation_tokens, operation_moves}
use Rattle.op_board.specs.SoundOperationNets.{IsOperationNet, OperationsCanCome}
use Rattle.program_nets.specs.Game.{game_of, operation_game}
use Rattle.job_laws.proofs.NetGames.{KindLaws, in_lockstep}

-- what is told of nets beside their programs
pub record LockstepLaws : Type 0 where
  pub begins : (x : OperationNet) → IsOperationNet x → OperationsCanCome x (first_operation_tokens x)
  pub simulated : (x : OperationNet) → IsOperationNet x → OperationsSimulate x
  pub due : (x : OperationNet) → IsOperationNet x → (steps : ℕ) → AreDueInTurn x steps
  pub few : (x : OperationNet) → IsOperationNet x → (steps : ℕ) → AreFewOperations x steps
  pub memory : (x : OperationNet) → IsOperationNet x → (steps : ℕ) → HasProgramMemory x steps
  pub follows : (x : OperationNet) (start : OperationTokens) (text : ℕ → List ℕ) (stage : ℕ → Stage) (own : ℕ → List ℕ) → OperationsCanCome x start → IsSimulation (operation_moves x) start text stage own → FollowsSource (operation_moves x) start text stage own
  pub due_ends : (x : OperationNet) (m : OperationTokens) (p : Control) (ks : List ℕ) (limit n : ℕ) (end : PlayEnd) → IsDueOrder (operation_moves x) (operation_course x) m p ks → IsOver (operation_moves x) (after (operation_moves x) m ks) → length ks ≤ limit → IsRun (by_order (operation_moves x) (operation_course x)) (moment m (Some p)) limit n end → end ≢ Limit

pub operation_laws : LockstepLaws → KindLaws operation_game
operation_laws laws = record {
  lockstep = λ x n.
      let simulated = laws.simulated x n in
      in_lockstep x (game_of x) simulated (laws.follows x (first_operation_tokens x) (program_text x.net) (program_stage x.net) (own_operations x) (laws.begins x n) simulated) (laws.due x n) (laws.few x n);
  memory = λ x n steps. ap (λ (m : Memory). m.store) (laws.memory x n steps);
  due_ends = λ x ks limit n end. laws.due_ends x (first_operation_tokens x) (first_control x.net) ks limit n end;
  bound = λ x steps. refl;
}
