use Rattle.std.proofs.Common.{◌≡◌, ◌<◌, ◌+◌, ◌++◌, List, length, ap, sym, ◌∙◌, arith, rules}
use Rattle.firing.specs.declared.system.NodeName.{NodeName}
use Rattle.net_board.specs.Nodes.{graph_in}
use Rattle.op_board.specs.OperationNets.{first_operation, operation_nodes_at, operation_nodes_below}
use Rattle.operation_tables.specs.PlanView.{operations_in}
use Rattle.operation_tables.proofs.GrownLists.{flat_map_next, mapped_more}
use Rattle.operation_tables.proofs.names.numbered_nodes.Goals as goal

pub overflow_cast-count : goal.overflow_cast-count
overflow_cast-count g c =
    let x = operations_in c.args.plan.now in
    let piece = c.loop-piece.piece in
    let names : c.push_nodes.new.names ≡ operation_nodes_below x (piece + 1) =
    c.in_ok-push_nodes.ensures ∙ ap (λ (xs : List NodeName). xs ++ operation_nodes_at x piece) c.loop-piece.invariant.names ∙ sym (flat_map_next (operation_nodes_at x) piece) in
    let low : piece < (graph_in x.net).nodes = search rules in
    let few = c.plans_can_be_numbered.ensures.nodes (piece + 1) (omega (arith, low)) in
    omega (arith, ap length names, few)

pub loop-piece-preserved : goal.loop-piece-preserved
loop-piece-preserved g c =
    let x = operations_in c.args.plan.now in
    let piece = c.loop-piece.piece in
    let names : c.push_nodes.new.names ≡ operation_nodes_below x (piece + 1) =
    c.in_ok-push_nodes.ensures ∙ ap (λ (xs : List NodeName). xs ++ operation_nodes_at x piece) c.loop-piece.invariant.names ∙ sym (flat_map_next (operation_nodes_at x) piece) in
    let low : piece < (graph_in x.net).nodes = search rules in
    let few = c.plans_can_be_numbered.ensures.nodes (piece + 1) (omega (arith, low)) in
    record {
      names = names;
      few = omega (arith, ap length names, few);
      firsts = mapped_more (first_operation x) c.loop-piece.firsts.items c.push-in-loop-piece.new.self.items (piece + 1) c.len-count.result c.loop-piece.invariant.firsts (c.len-count.ensures ∙ ap length names) c.in_ok-push-2.ensures.items;
    }
