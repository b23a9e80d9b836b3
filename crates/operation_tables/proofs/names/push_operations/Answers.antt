use Rattle.std.proofs.Common.{◌≡◌, ◌++◌, ◌∙◌, map, ap, zero-add, arith}
use Rattle.std.specs.List.{range_with_len}
use Rattle.firing.specs.declared.system.NodeName.TheVariants.{Op}
use Rattle.op_board.specs.OperationNets.{operation_count}
use Rattle.operation_tables.specs.PlanView.{operations_in}
use Rattle.operation_tables.proofs.GrownLists.{named_more}
use Rattle.operation_tables.proofs.PlannedCounts.{counted_at}
use Rattle.operation_tables.proofs.names.push_operations.Goals as goal

pub overflow_cast-count : goal.overflow_cast-count
overflow_cast-count g c =
    let here = counted_at c.args.plan.now c.args.piece c.index.result.now c.requires c.index.ensures in
    let few = c.plans_can_be_numbered.ensures.operations c.args.piece c.requires in
    omega (arith, c.len-count.ensures, c.index.result.now.operations.ok.0, here, few)

pub loop-i-preserved : goal.loop-i-preserved
loop-i-preserved g c = c.in_ok-push.ensures ∙ named_more (Op c.args.piece) c.args.names.now c.loop-i.names 0 c.loop-i.i c.loop-i.i (zero-add c.loop-i.i) c.loop-i.invariant

pub returns : goal.returns
returns g c =
    let here = counted_at c.args.plan.now c.args.piece c.index.result.now c.requires c.index.ensures in
    let count : c.len-count.result ≡ operation_count (operations_in c.args.plan.now) c.args.piece = omega (arith, c.len-count.ensures, c.index.result.now.operations.ok.0, here) in
    let all : c.loop-i.i ≡ operation_count (operations_in c.args.plan.now) c.args.piece = omega (arith, count) in
    c.loop-i.invariant ∙ ap (λ n. c.args.names.now ++ map (Op c.args.piece) (range_with_len 0 n)) all
