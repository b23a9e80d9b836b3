use Rattle.std.proofs.Common.{◌≡◌, ◌<◌, subst, sym, ◌∙◌, arith}
use Rattle.closed_walks.specs.Graph.{edge_count}
use Rattle.net_board.specs.ControlCourse.{arrival}
use Rattle.net_board.specs.Nodes.{graph_in}
use Rattle.net_tables.specs.LookupView.{net_on}
use Rattle.net_tables.proofs.LookupLemmas.{arrival_exists}
use Rattle.net_tables.proofs.TableLemmas.{mapped_length, mapped_at}
use Rattle.net_tables.proofs.lookups.Board.arrival.Goals as goal

pub index-requires : goal.index-requires
index-requires g c =
    let net = net_on c.args.self.now in
    let count = mapped_length (arrival net) c.args.self.now.tables.arrivals.items (edge_count (graph_in net)) c.args.self.now.own_tables.arrivals in
    omega (arith, count, c.requires)

pub returns-clause-piece : goal.returns-clause-piece
returns-clause-piece g c =
    let net = net_on c.args.self.now in
    c.index.ensures ∙ mapped_at (arrival net) c.args.self.now.tables.arrivals.items (edge_count (graph_in net)) c.args.edge c.index.result.now c.args.self.now.own_tables.arrivals c.requires

pub returns-clause-exists : goal.returns-clause-exists
returns-clause-exists g c =
    let net = net_on c.args.self.now in
    let is : c.index.result.now ≡ arrival net c.args.edge = c.index.ensures ∙ mapped_at (arrival net) c.args.self.now.tables.arrivals.items (edge_count (graph_in net)) c.args.edge c.index.result.now c.args.self.now.own_tables.arrivals c.requires in
    subst (λ p. p < (graph_in net).nodes) (sym is) (arrival_exists c.args.self.now.plan c.graph.result.now c.args.edge c.graph.ensures c.ends_exist.ensures c.requires)
