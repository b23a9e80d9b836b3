use Rattle.cfg_build.specs.Chains.{passes_of}
use Rattle.net_board.specs.NetLockstep.{IsInLockstep}
use Rattle.net_board.specs.ControlCourse.{first_control}
use Rattle.net_board.specs.Tokens.{first_tokens}
use Rattle.op_board.specs.OrderFacts.{OrderFacts}
use Rattle.op_board.proofs.DuePasses.{AreDueSoFar, due_so_far}
use Rattle.op_board.proofs.FewOperations.{few_operations}
use Rattle.op_board.proofs.OperationStages.{operations_end, operations_simulate, program_memory, tokens_after}
use Rattle.op_board.proofs.simulation_laws.operation_nets_simulate_programs.Goals as goal

pub returns-clause-simulated : goal.returns-clause-simulated
returns-clause-simulated c = λ x n.
    let known : OrderFacts x = c.runs_ground_orders.ensures x n in
    let first : IsInLockstep x.net (first_tokens x.net) (first_control x.net) = known.begins in
    operations_simulate x n known.operations first.is_net first.ground known.comes known.words known.along (c.nets_simulate_programs.ensures.simulated x.net n.is_net)

pub returns-clause-due : goal.returns-clause-due
returns-clause-due c = λ x n steps.
    let known : OrderFacts x = c.runs_ground_orders.ensures x n in
    let first : IsInLockstep x.net (first_tokens x.net) (first_control x.net) = known.begins in
    let so_far : AreDueSoFar x n known.operations first.is_net first.ground known.comes known.words (passes_of x.net.program x.net.input steps) = due_so_far x n known.operations first.is_net first.ground known.comes known.words (passes_of x.net.program x.net.input steps) in
    so_far.due

pub returns-clause-few : goal.returns-clause-few
returns-clause-few c = λ x n steps.
    let known : OrderFacts x = c.runs_ground_orders.ensures x n in
    let first : IsInLockstep x.net (first_tokens x.net) (first_control x.net) = known.begins in
    few_operations x n known.operations first.is_net first.ground known.comes known.words known.few known.chains known.within steps

pub returns-clause-tokens : goal.returns-clause-tokens
returns-clause-tokens c = λ x n steps.
    let known : OrderFacts x = c.runs_ground_orders.ensures x n in
    let first : IsInLockstep x.net (first_tokens x.net) (first_control x.net) = known.begins in
    tokens_after x n known.operations first.is_net first.ground known.comes known.words known.along steps

pub returns-clause-memory : goal.returns-clause-memory
returns-clause-memory c = λ x n steps.
    let known : OrderFacts x = c.runs_ground_orders.ensures x n in
    let first : IsInLockstep x.net (first_tokens x.net) (first_control x.net) = known.begins in
    program_memory x n known.operations first.is_net first.ground known.comes known.words known.along steps (c.nets_simulate_programs.ensures.memory x.net n.is_net steps)

pub returns-clause-rests : goal.returns-clause-rests
returns-clause-rests c = λ x n ks.
    let known : OrderFacts x = c.runs_ground_orders.ensures x n in
    let first : IsInLockstep x.net (first_tokens x.net) (first_control x.net) = known.begins in
    operations_end x n known.operations first.is_net first.ground known.comes known.words known.along (c.nets_simulate_programs.ensures.simulated x.net n.is_net) (c.operation_nets_keep_the_laws.ensures x) (c.operation_nets_begin_soundly.ensures x n) ks
