use Rattle.std.proofs.Common.{◌≡◌, ◌<◌, ℕ, Some, nat_eq, sym, ap, ◌∙◌, subst}
use Rattle.closed_walks.specs.Graph.{Graph, edge_count, to}
use Rattle.cfg_build.specs.Joined.{FlowGraph}
use Rattle.net_board.specs.Nodes.{graph_in}
use Rattle.net_board.specs.TokenEdges.{edge_at}
use Rattle.net_board.specs.Tokens.{leads_to}
use Rattle.net_tables.specs.PartsView.{net_in}
use Rattle.net_tables.proofs.TokenLineLemmas.{read_edge}
use Rattle.net_tables.proofs.token_lines.is_before.Goals as goal

pub to-requires : goal.to-requires
to-requires g c =
    let same : c.graph.result.now ≡ graph_in (net_in c.args.plan.now) = c.graph.ensures ∙ ap (λ (f : FlowGraph). f.graph) c.args.plan.now.own_flow in
    let at : edge_at c.args.lines.now.items c.args.line ≡ Some c.in-Some.edge = read_edge c.args.lines.now.items c.args.line c.index.result.now c.requires.line c.index.ensures ∙ c.in-Some.is in
    subst (λ (h : Graph). c.in-Some.edge < edge_count h) (sym same) (c.requires.edges c.args.line c.in-Some.edge at)

pub returns-in-Some : goal.returns-in-Some
returns-in-Some g c =
    let net = net_in c.args.plan.now in
    let same : c.graph.result.now ≡ graph_in net = c.graph.ensures ∙ ap (λ (f : FlowGraph). f.graph) c.args.plan.now.own_flow in
    let at : edge_at c.args.lines.now.items c.args.line ≡ Some c.in-Some.edge = read_edge c.args.lines.now.items c.args.line c.index.result.now c.requires.line c.index.ensures ∙ c.in-Some.is in
    ap (λ (p : ℕ). nat_eq p c.args.piece) (c.to.ensures.node ∙ ap (λ (h : Graph). to h c.in-Some.edge) same) ∙ ap (leads_to (graph_in net) c.args.piece) (sym at)

pub returns-in-None : goal.returns-in-None
returns-in-None g c =
    let net = net_in c.args.plan.now in
    ap (leads_to (graph_in net) c.args.piece) (sym (read_edge c.args.lines.now.items c.args.line c.index.result.now c.requires.line c.index.ensures ∙ c.in-None.is))
