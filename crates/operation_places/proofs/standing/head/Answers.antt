use Rattle.std.proofs.Common.{◌≡◌, ◌<◌, ap, sym, ◌∙◌, subst}
use Rattle.closed_walks.specs.Graph.{Graph, edge_count, to}
use Rattle.cfg_build.specs.Joined.{FlowGraph}
use Rattle.net_board.specs.Nodes.{graph_in}
use Rattle.operation_tables.specs.BoardView.{operation_net_on}
use Rattle.operation_places.proofs.standing.head.Goals as goal

pub to-requires : goal.to-requires
to-requires g c =
    let same : c.graph.result.now ≡ graph_in (operation_net_on c.args.board.now).net = c.graph.ensures ∙ ap (λ (f : FlowGraph). f.graph) c.args.board.now.plan.board.plan.own_flow in
    subst (λ (h : Graph). c.args.edge < edge_count h) (sym same) c.requires

pub returns-clause-piece : goal.returns-clause-piece
returns-clause-piece g c =
    let same : c.graph.result.now ≡ graph_in (operation_net_on c.args.board.now).net = c.graph.ensures ∙ ap (λ (f : FlowGraph). f.graph) c.args.board.now.plan.board.plan.own_flow in
    subst (λ (h : Graph). to h c.args.edge ≡ c.to.result) same (sym c.to.ensures.node)

pub returns-clause-exists : goal.returns-clause-exists
returns-clause-exists g c =
    let same : c.graph.result.now ≡ graph_in (operation_net_on c.args.board.now).net = c.graph.ensures ∙ ap (λ (f : FlowGraph). f.graph) c.args.board.now.plan.board.plan.own_flow in
    subst (λ (h : Graph). c.to.result < h.nodes) same c.to.ensures.exists
