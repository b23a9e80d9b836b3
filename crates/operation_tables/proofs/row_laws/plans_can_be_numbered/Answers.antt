use Rattle.std.proofs.Props.{props}
use mathlib.Core.Logic.{∥∥₁_elim}
use Rattle.op_board.specs.SoundOperationNets.{IsOperationNet}
use Rattle.operation_tables.specs.PlanView.{operations_in}
use Rattle.operation_tables.proofs.PlanCounts.{count_few, nodes_numbered, rows_numbered}
use Rattle.operation_tables.proofs.row_laws.plans_can_be_numbered.Goals as goal

pub returns-clause-operations : goal.returns-clause-operations
returns-clause-operations g c = count_few c.args.plan.now

pub returns-clause-nodes : goal.returns-clause-nodes
returns-clause-nodes g c = λ n low.
    let plan = c.args.plan.now in
    let p = (operations_in plan).net.program in
    ∥∥₁_elim plan.is_net (hlevel props) (λ (is : IsOperationNet (operations_in plan)).
    nodes_numbered (operations_in plan) plan.board.plan.few_lines (count_few plan) n low (c.pieces_are_few.ensures p.names p.execs p.loops is.is_net.program.execs))

pub returns-clause-rows : goal.returns-clause-rows
returns-clause-rows g c = λ n low.
    let plan = c.args.plan.now in
    let p = (operations_in plan).net.program in
    ∥∥₁_elim plan.is_net (hlevel props) (λ (is : IsOperationNet (operations_in plan)).
    rows_numbered (operations_in plan) plan.board.plan.few_lines (count_few plan) n low (c.pieces_are_few.ensures p.names p.execs p.loops is.is_net.program.execs))
