-- What lower layers tell of the run of a program, as the own order of its net of operations needs it. No public clause cites this
-- module by itself.
use Rattle.std.specs.Prelude.{◌≡◌, ◌≤◌, ◌<◌, ℕ, Some, length, slice_get}
use Rattle.f77_tree.specs.declared.programs.Exec.{Exec}
use Rattle.f77_tree.specs.Operations.{most_operations}
use Rattle.f77_tree.specs.Run.{source}
use Rattle.f77_tree.specs.Steps.{HoldsWords}
use Rattle.cfg_build.specs.Chains.{StandsAt, chain, entry, has_test, passes_of}
use Rattle.cfg_build.specs.Flow.{flow}
use Rattle.cfg_build.specs.Passes.{passes}
use Rattle.cfg_build.specs.Routes.{AreChain}
use Rattle.cfg_build.specs.Steps.{IsWithinStep, chain_after}
use Rattle.net_board.specs.ControlCourse.{first_control}
use Rattle.net_board.specs.NetLockstep.{IsInLockstep}
use Rattle.net_board.specs.SoundNets.{CanCome}
use Rattle.net_board.specs.Tokens.{first_tokens}
use Rattle.op_board.specs.OperationFacts.{OperationFacts}
use Rattle.op_board.specs.OperationNets.{OperationNet, operation_count}

-- the pieces that control takes for an executable
pub record HasChain (x : OperationNet) (k : ℕ) : Type 0 where
  pub exec : Exec
  pub found : slice_get x.net.program.execs k ≡ Some exec
  pub are : AreChain (flow x.net.program.execs) (entry x.net.program.execs) x.net.program.execs k (has_test exec.kind) exec.kind (chain x.net.program.execs k)

pub record OrderFacts (x : OperationNet) : Type 0 where
  pub operations : OperationFacts x
  pub few : (piece : ℕ) → operation_count x piece ≤ most_operations x.net.program
  -- of the net of statements
  pub begins : IsInLockstep x.net (first_tokens x.net) (first_control x.net)
  pub comes : CanCome x.net (first_tokens x.net)
  -- of passes and steps
  pub words : (k : ℕ) → HoldsWords (passes x.net.program x.net.input k).memory
  pub along : (k : ℕ) → StandsAt x.net.program (source x.net.program x.net.input k) (passes x.net.program x.net.input (passes_of x.net.program x.net.input k))
  pub chains : (k : ℕ) → HasChain x (source x.net.program x.net.input k).position
  pub within : (k i : ℕ) → i < length (chain_after x.net.program x.net.input k) → IsWithinStep x.net.program x.net.input k i
