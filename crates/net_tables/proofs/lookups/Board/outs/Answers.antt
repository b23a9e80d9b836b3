use Rattle.std.proofs.Common.{◌∙◌, arith}
use Rattle.cfg_build.specs.Passes.{outs}
use Rattle.net_tables.specs.LookupView.{net_on}
use Rattle.net_board.specs.Nodes.{graph_in}
use Rattle.net_tables.proofs.TableLemmas.{mapped_length, mapped_at}
use Rattle.net_tables.proofs.lookups.Board.outs.Goals as goal

pub index-requires : goal.index-requires
index-requires g c =
    let net = net_on c.args.self.now in
    let count = mapped_length (outs (graph_in net)) c.args.self.now.tables.outs.items (graph_in net).nodes c.args.self.now.own_tables.outs in
    omega (arith, count, c.requires)

pub returns : goal.returns
returns g c =
    let net = net_on c.args.self.now in
    c.index.ensures ∙ mapped_at (outs (graph_in net)) c.args.self.now.tables.outs.items (graph_in net).nodes c.args.piece c.index.result.now c.args.self.now.own_tables.outs c.requires
