use Rattle.std.proofs.Common.{suc, ◌∙◌, arith}
use Rattle.net_board.specs.Nodes.{graph_in, first_node}
use Rattle.net_tables.specs.LookupView.{net_on}
use Rattle.net_tables.proofs.TableLemmas.{mapped_length, mapped_at}
use Rattle.net_tables.proofs.lookups.Board.first.Goals as goal

pub index-requires : goal.index-requires
index-requires g c =
    let net = net_on c.args.self.now in
    let count = mapped_length (first_node net) c.args.self.now.tables.firsts.items (suc (graph_in net).nodes) c.args.self.now.own_tables.firsts in
    omega (arith, count, c.requires)

pub returns : goal.returns
returns g c =
    let net = net_on c.args.self.now in
    c.index.ensures ∙ mapped_at (first_node net) c.args.self.now.tables.firsts.items (suc (graph_in net).nodes) c.args.piece c.index.result.now c.args.self.now.own_tables.firsts (omega (arith, c.requires))
