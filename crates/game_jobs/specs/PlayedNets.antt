-- Nets of operations as the code that plays games on them sees them.
use Rattle.std.specs.Prelude.{◌≡◌, ◌≢◌, ℕ, ℤ, List, Some, None}
use Rattle.f77_tree.specs.declared.programs.Program.{Program}
use Rattle.firing.specs.Control.{IsInStep}
use Rattle.firing.specs.Play.{Moment, Way, moment}
use Rattle.net_board.specs.ControlCourse.{first_control}
use Rattle.op_board.specs.OperationCourse.{operation_course}
use Rattle.op_board.specs.OperationTokens.{OperationTokens, first_operation_tokens, operation_moves}
use Rattle.op_board.specs.SoundOperationNets.{OperationsCanCome}
use Rattle.op_net.specs.declared.net.OpNet.{OpNet}
use Rattle.op_net.specs.NetView.{marking_of, net_of}
use Rattle.op_net.specs.StaysInStep.{StaysInStep}
use Rattle.job_terms.specs.declared.task.Told.{Told}
use Rattle.job_terms.specs.Due.{Due}
use Rattle.game_jobs.specs.DueGames.{IsGameTold}
use Rattle.program_nets.specs.Game.{IsNetOn, Place, operation_game}
use Rattle.program_nets.specs.Playing.{way_by}

module _ {W : ℕ} where
  -- how a net is played by picks, or without them in the source's own order
  abbrev pub way_on : OpNet W → (picks : List ℕ) → Way OperationTokens Place
  way_on s picks = way_by (operation_moves (net_of s)) (operation_course (net_of s)) picks

  -- its marking, and where control stands
  abbrev pub moment_of : OpNet W → Moment OperationTokens Place
  moment_of s = moment (marking_of s) s.control

  -- this is told of its game
  abbrev pub IsToldOf : Told → Program → OpNet W → (picks : List ℕ) → (limit : ℕ) → Due → Type 0
  IsToldOf told p s picks limit due = IsGameTold operation_game told p (way_on s picks) (moment_of s) limit due

  -- A net of this program at a marking that can come, with control in step.
  pub record CanBePlayed (p : Program) (s : OpNet W) : Type 0 where
    pub own : (net_of s).net.program ≡ p
    pub sound : OperationsCanCome (net_of s) (marking_of s)
    pub in_step : IsInStep (operation_moves (net_of s)) (StaysInStep (net_of s)) (marking_of s) s.control
    pub control : s.control ≢ None

  -- The net of a program over data, before any firing.
  pub record IsOpeningNet (p : Program) (words : List ℤ) (s : OpNet W) : Type 0 where
    pub is_net : IsNetOn p words (net_of s)
    pub can : CanBePlayed p s
    pub marking : marking_of s ≡ first_operation_tokens (net_of s)
    pub place : s.control ≡ Some (first_control (net_of s).net)
