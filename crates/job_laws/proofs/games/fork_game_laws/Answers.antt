use Rattle.program_nets.specs.Game.{fork_game}
use Rattle.job_laws.proofs.ForkGames.{ForkLaws, fork_laws}
use Rattle.job_laws.proofs.NetGames.{game_laws_of}
use Rattle.job_laws.proofs.OneNet.{OneOfEach}
use Rattle.job_laws.proofs.games.fork_game_laws.Goals as goal

pub returns : goal.returns
returns c =
    let each : OneOfEach = record { classes = c.one_numbering.ensures; touching = c.one_range_touching.ensures; routing = c.one_routing.ensures.one } in
    let laws : ForkLaws = record {
      begins = c.forks_begin_soundly.ensures;
      simulated = c.forks_simulate_programs.ensures.simulated;
      due = c.forks_simulate_programs.ensures.due;
      forked = c.forks_simulate_programs.ensures.forked;
      in_turn = c.operation_nets_simulate_programs.ensures.simulated;
      few = c.operation_nets_simulate_programs.ensures.few;
      memory = c.operation_nets_simulate_programs.ensures.memory;
      follows = c.every_order_follows.ensures;
      due_ends = c.due_orders_end.ensures;
    } in
    game_laws_of fork_game (fork_laws laws) (record { one = c.runs_end.ensures.one; nodes = c.runs_end.ensures.nodes }) each c.classes_are_counted.ensures c.runs_stop_first.ensures
