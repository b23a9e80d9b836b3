use Rattle.std.proofs.Common.{◌<◌, sym, subst}
use Rattle.closed_walks.specs.Graph.{edge_count}
use Rattle.net_board.specs.Nodes.{graph_in}
use Rattle.net_tables.proofs.TokenLineLemmas.{led_below}
use Rattle.op_net.specs.NetView.{net_of}
use Rattle.op_net.proofs.net.OpNet.led_out.Goals as goal

pub returns-clause-exists : goal.returns-clause-exists
returns-clause-exists g c =
    let x = net_of c.args.self.now in
    subst (λ e. e < edge_count (graph_in x.net)) (sym c.next_wire.ensures) (led_below c.args.self.now.board.plan.board.plan c.out_edge-edge.result c.args.line c.requires.line c.out_edge-edge.ensures.exists)
