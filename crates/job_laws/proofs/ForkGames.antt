-- What lower layers tell of nets in which the loads of a group fire in any order, told of their games.
use Rattle.std.proofs.Common.{◌≢◌, ◌≤◌, ℕ, List, length, Some, refl, ap, ◌∙◌}
use Rattle.f77_tree.specs.Execution.{Memory}
use Rattle.firing.specs.declared.playing.PlayEnd.{PlayEnd}
use Rattle.firing.specs.declared.playing.PlayEnd.TheVariants.{Limit}
use Rattle.firing.specs.Orders.{IsOver, after}
use Rattle.firing.specs.Pacing.{FollowsSource, IsSimulation, Stage}
use Rattle.firing.specs.Play.{by_order, moment}
use Rattle.firing.specs.Runs.{IsRun}
use Rattle.firing.specs.SourceOrder.{IsDueOrder}
use Rattle.net_board.specs.declared.control.Control.{Control}
use Rattle.net_board.specs.ControlCourse.{first_control}
use Rattle.net_board.specs.ProgramStages.{program_stage, program_text}
use Rattle.op_board.specs.OperationNets.{OperationNet}
use Rattle.op_board.specs.OperationOrder.{own_operations}
use Rattle.op_board.specs.OperationSimulation.{AreFewOperations, HasProgramMemory, OperationsSimulate}
use Rattle.op_board.specs.SoundOperationNets.{IsOperationNet}
use Rattle.fork_board.specs.ForkSimulation.{AreForksDue, ForksSimulate, OrdersAreForked}
use Rattle.fork_board.specs.ForkTokens.{ForkTokens, first_fork_tokens, fork_course, fork_moves}
use Rattle.fork_board.specs.SoundForks.{ForksCanCome}
use Rattle.program_nets.specs.Game.{fork_game, fork_game_of}
use Rattle.job_laws.proofs.NetGames.{KindLaws, in_lockstep}

-- What is told of nets beside their programs. The source's own order is that of a net whose operations fire in turn.
pub record ForkLaws : Type 0 where
  pub begins : (x : OperationNet) → IsOperationNet x → ForksCanCome x (first_fork_tokens x)
  pub simulated : (x : OperationNet) → IsOperationNet x → ForksSimulate x
  pub due : (x : OperationNet) → IsOperationNet x → (steps : ℕ) → AreForksDue x steps
  pub forked : (x : OperationNet) → IsOperationNet x → OrdersAreForked x
  pub in_turn : (x : OperationNet) → IsOperationNet x → OperationsSimulate x
  pub few : (x : OperationNet) → IsOperationNet x → (steps : ℕ) → AreFewOperations x steps
  pub memory : (x : OperationNet) → IsOperationNet x → (steps : ℕ) → HasProgramMemory x steps
  pub follows : (x : OperationNet) (start : ForkTokens) (text : ℕ → List ℕ) (stage : ℕ → Stage) (own : ℕ → List ℕ) → ForksCanCome x start → IsSimulation (fork_moves x) start text stage own → FollowsSource (fork_moves x) start text stage own
  pub due_ends : (x : OperationNet) (m : ForkTokens) (p : Control) (ks : List ℕ) (limit n : ℕ) (end : PlayEnd) → IsDueOrder (fork_moves x) (fork_course x) m p ks → IsOver (fork_moves x) (after (fork_moves x) m ks) → length ks ≤ limit → IsRun (by_order (fork_moves x) (fork_course x)) (moment m (Some p)) limit n end → end ≢ Limit

pub fork_laws : ForkLaws → KindLaws fork_game
fork_laws laws = record {
  lockstep = λ x n.
      let simulated = laws.simulated x n in
      in_lockstep x (fork_game_of x) simulated (laws.follows x (first_fork_tokens x) (program_text x.net) (program_stage x.net) (own_operations x) (laws.begins x n) simulated) (laws.due x n) (laws.few x n);
  memory = λ x n steps. ap (λ (m : Memory). m.store) ((laws.forked x n (own_operations x steps) ((laws.in_turn x n).order steps)).memory ∙ laws.memory x n steps);
  due_ends = λ x ks limit n end. laws.due_ends x (first_fork_tokens x) (first_control x.net) ks limit n end;
  bound = λ x steps. refl;
}
