use Rattle.std.proofs.Common.{◌≡◌, ◌<◌, None, Some, sym, ap, ◌∙◌, subst, arith, rules}
use Rattle.closed_walks.specs.Graph.{Graph, edge_count, to}
use Rattle.cfg_build.specs.Joined.{FlowGraph}
use Rattle.net_board.specs.Nodes.{graph_in}
use Rattle.net_board.specs.TokenEdges.{edge_at}
use Rattle.net_tables.specs.LookupView.{net_on}
use Rattle.net_tables.proofs.TokenLineLemmas.{read_edge}
use Rattle.token_net.proofs.WakeLoops.{next_has, next_past, next_lost}
use Rattle.token_net.proofs.waking.wake_before.Goals as goal

pub to-piece-requires : goal.to-piece-requires
to-piece-requires g c =
    let same : c.graph.result.now ≡ graph_in (net_on c.args.board.now) = c.graph.ensures ∙ ap (λ (f : FlowGraph). f.graph) c.args.board.now.plan.own_flow in
    let at : edge_at c.args.lines.now.items c.args.line ≡ Some c.in-Some.edge = read_edge c.args.lines.now.items c.args.line c.index.result.now (omega (arith, c.requires.line, c.requires.all)) c.index.ensures ∙ c.in-Some.is in
    subst (λ (h : Graph). c.in-Some.edge < edge_count h) (sym same) (c.requires.edges c.args.line c.in-Some.edge at)

pub returns-then-k-nodes-clause-has : goal.returns-then-k-nodes-clause-has
returns-then-k-nodes-clause-has g c =
    let net = net_on c.args.board.now in
    let same : c.graph.result.now ≡ graph_in net = c.graph.ensures ∙ ap (λ (f : FlowGraph). f.graph) c.args.board.now.plan.own_flow in
    let at : edge_at c.args.lines.now.items c.args.line ≡ Some c.in-Some.edge = read_edge c.args.lines.now.items c.args.line c.index.result.now (omega (arith, c.requires.line, c.requires.all)) c.index.ensures ∙ c.in-Some.is in
    next_has net c.wake.new.woken.items c.args.line c.in-Some.edge c.to-piece.result c.place-k.result (edge_at c.args.lines.now.items c.args.line) at (c.to-piece.ensures.node ∙ ap (λ (h : Graph). to h c.in-Some.edge) same) c.place-k.ensures c.wake.ensures.has

pub returns-else-k-nodes-clause-has : goal.returns-else-k-nodes-clause-has
returns-else-k-nodes-clause-has g c =
    let net = net_on c.args.board.now in
    let same : c.graph.result.now ≡ graph_in net = c.graph.ensures ∙ ap (λ (f : FlowGraph). f.graph) c.args.board.now.plan.own_flow in
    let at : edge_at c.args.lines.now.items c.args.line ≡ Some c.in-Some.edge = read_edge c.args.lines.now.items c.args.line c.index.result.now (omega (arith, c.requires.line, c.requires.all)) c.index.ensures ∙ c.in-Some.is in
    next_past net c.args.woken.now.items c.args.line c.in-Some.edge c.to-piece.result c.place-k.result (edge_at c.args.lines.now.items c.args.line) at (c.to-piece.ensures.node ∙ ap (λ (h : Graph). to h c.in-Some.edge) same) c.place-k.ensures (omega (arith, c.if-k-nodes.false, c.nodes.ensures))

pub returns-in_default-clause-has : goal.returns-in_default-clause-has
returns-in_default-clause-has g c =
    let none : c.index.result.now ≡ None = search rules in
    next_lost (net_on c.args.board.now) c.args.woken.now.items c.args.line (edge_at c.args.lines.now.items c.args.line) (read_edge c.args.lines.now.items c.args.line c.index.result.now (omega (arith, c.requires.line, c.requires.all)) c.index.ensures ∙ none)
