use Rattle.cfg_build.specs.Chains.{passes_of}
use Rattle.net_board.specs.FlowFacts.{FlowFacts}
use Rattle.net_board.proofs.DueLockstep.{IsDueLockstep, due_lockstep}
use Rattle.net_board.proofs.OrderBounds.{order_few, order_memory, begins_in_lockstep}
use Rattle.net_board.proofs.StandingLaws.{rests_at_end, stands_after}
use Rattle.net_board.proofs.StepLockstep.{own_simulated}
use Rattle.net_board.proofs.simulation_laws.nets_simulate_programs.Goals as goal

pub returns-clause-begins : goal.returns-clause-begins
returns-clause-begins c = λ net n. begins_in_lockstep net n (c.flow_graphs_ground_nets.ensures net n)

pub returns-clause-simulated : goal.returns-clause-simulated
returns-clause-simulated c = λ net n. own_simulated net n (c.flow_graphs_ground_nets.ensures net n) (c.runs_ground_nets.ensures net n)

pub returns-clause-due : goal.returns-clause-due
returns-clause-due c = λ net n steps.
    let ground : FlowFacts net n.tree = c.flow_graphs_ground_nets.ensures net n in
    let lockstep : IsDueLockstep net n ground (passes_of net.program net.input steps) = due_lockstep net n ground (passes_of net.program net.input steps) in
    lockstep.due

pub returns-clause-few : goal.returns-clause-few
returns-clause-few c = λ net n steps. order_few net n (c.flow_graphs_ground_nets.ensures net n) steps

pub returns-clause-memory : goal.returns-clause-memory
returns-clause-memory c = λ net n steps. order_memory net n (c.flow_graphs_ground_nets.ensures net n) (c.runs_ground_nets.ensures net n) steps

pub returns-clause-stands : goal.returns-clause-stands
returns-clause-stands c = λ net n steps. stands_after net n (c.flow_graphs_ground_nets.ensures net n) (c.runs_ground_nets.ensures net n) steps

pub returns-clause-rests : goal.returns-clause-rests
returns-clause-rests c = λ net n ks. rests_at_end net n (c.flow_graphs_ground_nets.ensures net n) (c.runs_ground_nets.ensures net n) (c.nets_begin_soundly.ensures net n) ks
