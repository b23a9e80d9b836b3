use Rattle.std.proofs.Common.{◌<◌, ◌≤◌, ◌^◌, length, subst, arith}
use Rattle.op_board.specs.OperationNets.{all_operation_nodes}
use Rattle.operation_tables.specs.GraphView.{operations_of}
use Rattle.printed_laws.proofs.ShortOperands.{all_nodes_short, one_more_node}
use Rattle.printed_laws.proofs.nets.nets_are_short.Goals as goal

pub loop-k-preserved : goal.loop-k-preserved
loop-k-preserved g c = one_more_node (operations_of c.args.net.now) c.loop-k.k c.loop-k.invariant c.node_is_short.ensures

pub returns : goal.returns
returns g c =
    let x = operations_of c.args.net.now in
    let end : length (all_operation_nodes x) ≤ c.loop-k.k = omega (arith, c.loop-k-test.false, c.nodes-k-end.ensures) in
    record {
      nodes = subst (λ n. n < 2 ^ 32) c.nodes-k-end.ensures c.nodes-k-end.type_inv;
      operands = all_nodes_short x c.loop-k.k c.loop-k.invariant end;
    }
