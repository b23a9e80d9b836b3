use Rattle.std.proofs.Common.{◌≡◌, ◌+◌, suc, ◌∙◌, arith}
use Rattle.net_board.specs.Nodes.{graph_in}
use Rattle.net_tables.proofs.TableLemmas.{mapped_length, mapped_at}
use Rattle.op_board.specs.OperationNets.{first_operation, operation_node_count}
use Rattle.operation_tables.specs.BoardView.{operation_net_on}
use Rattle.operation_tables.proofs.OperationRanges.{next_first, nodes_within}
use Rattle.operation_tables.proofs.lookups.OperationBoard.end.Goals as goal

pub index-requires : goal.index-requires
index-requires g c =
    let x = operation_net_on c.args.self.now in
    let count = mapped_length (first_operation x) c.args.self.now.tables.firsts.items (suc (graph_in x.net).nodes) c.args.self.now.own_tables.firsts in
    omega (arith, count, c.requires)

pub returns-clause-end : goal.returns-clause-end
returns-clause-end g c =
    let x = operation_net_on c.args.self.now in
    c.index.ensures ∙ mapped_at (first_operation x) c.args.self.now.tables.firsts.items (suc (graph_in x.net).nodes) (c.args.piece + 1) c.index.result.now c.args.self.now.own_tables.firsts (omega (arith, c.requires)) ∙ next_first x c.args.piece

pub returns-clause-within : goal.returns-clause-within
returns-clause-within g c =
    let x = operation_net_on c.args.self.now in
    let is : c.index.result.now ≡ first_operation x c.args.piece + operation_node_count x c.args.piece = c.index.ensures ∙ mapped_at (first_operation x) c.args.self.now.tables.firsts.items (suc (graph_in x.net).nodes) (c.args.piece + 1) c.index.result.now c.args.self.now.own_tables.firsts (omega (arith, c.requires)) ∙ next_first x c.args.piece in
    let within = nodes_within x c.args.piece c.requires in
    omega (arith, is, within)
