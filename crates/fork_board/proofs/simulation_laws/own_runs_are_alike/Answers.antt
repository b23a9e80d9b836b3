use Rattle.op_board.proofs.OperationLaws.{firing_facts}
use Rattle.fork_board.proofs.OwnRunsAlike.{runs_alike}
use Rattle.fork_board.proofs.simulation_laws.own_runs_are_alike.Goals as goal

pub returns : goal.returns
returns c = λ x n.
    let comes = c.operation_nets_begin_soundly.ensures x n in
    let lockstep = c.operation_nets_stay_in_lockstep.ensures in
    let graph = (c.nets_simulate_programs.ensures.begins x.net n.is_net).ground.graph in
    runs_alike comes.ground x n (firing_facts comes.ground x n) (c.loads_come_once.ensures x n) comes (lockstep.steady x) (lockstep.ordered x) (lockstep.begins x n) (c.operations_have_facts.ensures x n) graph (c.operation_nets_simulate_programs.ensures.rests x n)
