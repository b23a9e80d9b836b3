use Rattle.std.proofs.Common.{◌≡◌, ◌+◌, suc, ◌∙◌, arith}
use Rattle.net_board.specs.Nodes.{graph_in, first_node, node_count}
use Rattle.net_tables.specs.LookupView.{net_on}
use Rattle.net_tables.proofs.NodeRanges.{nodes_within}
use Rattle.net_tables.proofs.TableLemmas.{mapped_length, mapped_at, first_next}
use Rattle.net_tables.proofs.lookups.Board.end.Goals as goal

pub index-requires : goal.index-requires
index-requires g c =
    let net = net_on c.args.self.now in
    let count = mapped_length (first_node net) c.args.self.now.tables.firsts.items (suc (graph_in net).nodes) c.args.self.now.own_tables.firsts in
    omega (arith, count, c.requires)

pub returns-clause-end : goal.returns-clause-end
returns-clause-end g c =
    let net = net_on c.args.self.now in
    c.index.ensures ∙ mapped_at (first_node net) c.args.self.now.tables.firsts.items (suc (graph_in net).nodes) (c.args.piece + 1) c.index.result.now c.args.self.now.own_tables.firsts (omega (arith, c.requires)) ∙ first_next net c.args.piece

pub returns-clause-within : goal.returns-clause-within
returns-clause-within g c =
    let net = net_on c.args.self.now in
    let is : c.index.result.now ≡ first_node net c.args.piece + node_count net c.args.piece = c.index.ensures ∙ mapped_at (first_node net) c.args.self.now.tables.firsts.items (suc (graph_in net).nodes) (c.args.piece + 1) c.index.result.now c.args.self.now.own_tables.firsts (omega (arith, c.requires)) ∙ first_next net c.args.piece in
    let within = nodes_within net c.args.piece c.requires in
    omega (arith, is, within)
