-- Where a program is after so many steps, and what it has written.
use Rattle.std.specs.Prelude.{◌≡◌, ◌≢◌, ℕ, List, ◌⊎◌, ◌+◌}
use Rattle.region_tree.specs.Tree.{Tree}
use Rattle.f77_tree.specs.Run.{Mark, Running, Ended, Trapped, source}
use Rattle.cfg_build.specs.Chains.{passes_of, StandsAt}
use Rattle.cfg_build.specs.Passes.{passes}
use Rattle.dep_routing.specs.Quiet.{IsFree}
use Rattle.dep_routing.specs.Sound.{comes_to}
use Rattle.firing.specs.Pacing.{Stage, Going, Done, Failed}
use Rattle.net_board.specs.Nodes.{NetOf, graph_in}

-- where a program is that has this mark
abbrev pub stage_of : Mark → Stage
stage_of Running = Going
stage_of Ended = Done
stage_of (Trapped trap line) = Failed (trap, line)

abbrev pub program_stage : NetOf → (steps : ℕ) → Stage
program_stage net n = stage_of (source net.program net.input n).mark

-- what the program has written
abbrev pub program_text : NetOf → (steps : ℕ) → List ℕ
program_text net n = (source net.program net.input n).out

-- some passes after n the run doesn't go on, or it comes to a piece that is free for the line of output
pub record OutputMoves (net : NetOf) (t : Tree) (n : ℕ) : Type 0 where
  pub later : ℕ
  pub moves : ((passes net.program net.input (n + later)).mark ≢ Running) ⊎ IsFree (graph_in net) t net.touches 0 (comes_to net.program net.input (n + later))

-- What lower layers tell of the runs of a program.
pub record RunFacts (net : NetOf) (t : Tree) : Type 0 where
  pub steps : (n : ℕ) → StandsAt net.program (source net.program net.input n) (passes net.program net.input (passes_of net.program net.input n))
  pub moving : (n : ℕ) → (passes net.program net.input n).mark ≡ Running → OutputMoves net t n
