use Rattle.std.proofs.Common.{◌≢◌, ◌⊎◌, ◌+◌, ℕ, inl, inr}
use Rattle.f77_tree.specs.Run.{Running}
use Rattle.cfg_build.specs.Passes.{passes}
use Rattle.dep_routing.specs.Leaving.{KeepsMoving}
use Rattle.dep_routing.specs.Quiet.{IsFree}
use Rattle.dep_routing.specs.Sound.{comes_to}
use Rattle.region_tree.specs.Tree.{Tree}
use Rattle.net_board.specs.Nodes.{NetOf, graph_in}
use Rattle.net_board.specs.ProgramStages.{OutputMoves}
use Rattle.net_board.proofs.simulation_laws.runs_ground_nets.Goals as goal

moves_on : (net : NetOf) (t : Tree) (n : ℕ) → KeepsMoving net.program t net.touches net.input n → OutputMoves net t n
moves_on net t n keeps = record { later = keeps.later; moves = by keeps.moves }
  where
    by : ((passes net.program net.input (n + keeps.later)).mark ≢ Running) ⊎ ((comes_to net.program net.input (n + keeps.later) ≢ 0) × IsFree (graph_in net) t net.touches 0 (comes_to net.program net.input (n + keeps.later))) → ((passes net.program net.input (n + keeps.later)).mark ≢ Running) ⊎ IsFree (graph_in net) t net.touches 0 (comes_to net.program net.input (n + keeps.later))
    by (inl stopped) = inl stopped
    by (inr free) = inr free.1

pub returns : goal.returns
returns c = λ net n.
    let p = net.program in
    let well = n.program.execs in
    record {
      steps = λ k. c.passes_follow_steps.ensures p net.input k well;
      moving = λ k runs. moves_on net n.tree k (c.output_keeps_moving.ensures p n.classes n.tree net.touches net.input k well n.own_tree n.sound_touches n.input_words runs);
    }
