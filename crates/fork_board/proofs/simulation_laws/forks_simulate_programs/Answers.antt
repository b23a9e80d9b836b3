use Rattle.op_board.proofs.OperationLaws.{firing_facts}
use Rattle.fork_board.proofs.ForkSimulations.{forked, forks_due, forks_simulate}
use Rattle.fork_board.proofs.simulation_laws.forks_simulate_programs.Goals as goal

pub returns-clause-forked : goal.returns-clause-forked
returns-clause-forked c = λ x n.
    let comes = c.operation_nets_begin_soundly.ensures x n in
    forked comes.ground x n (firing_facts comes.ground x n) (c.loads_come_once.ensures x n) comes

pub returns-clause-simulated : goal.returns-clause-simulated
returns-clause-simulated c = λ x n.
    let comes = c.operation_nets_begin_soundly.ensures x n in
    let laws = c.operation_nets_simulate_programs.ensures in
    forks_simulate comes.ground x n (firing_facts comes.ground x n) (c.loads_come_once.ensures x n) comes (c.operations_have_facts.ensures x n) ((c.nets_simulate_programs.ensures.begins x.net n.is_net).ground.graph) (laws.simulated x n) (laws.rests x n)

pub returns-clause-due : goal.returns-clause-due
returns-clause-due c = λ x n.
    let comes = c.operation_nets_begin_soundly.ensures x n in
    let laws = c.operation_nets_simulate_programs.ensures in
    forks_due comes.ground x n (firing_facts comes.ground x n) (c.loads_come_once.ensures x n) comes (laws.simulated x n) (laws.due x n)
