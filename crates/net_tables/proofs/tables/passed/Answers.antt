use Rattle.std.proofs.Common.{◌≡◌, ◌<◌, true, false, ℕ, List, slice_index, subst, ap, sym, ◌∙◌, arith}
use Rattle.closed_walks.specs.Graph.{Graph, to}
use Rattle.cfg_build.specs.Joined.{FlowGraph}
use Rattle.cfg_build.specs.Passes.{out, outs}
use Rattle.net_board.specs.Nodes.{graph_in}
use Rattle.net_board.specs.ControlCourse.{is_idle}
use Rattle.net_tables.specs.PartsView.{net_in}
use Rattle.net_tables.proofs.TableLemmas.{mapped_length, mapped_at, passed_if, passed_unless}
use Rattle.net_tables.proofs.tables.passed.Goals as goal

pub index-requires : goal.index-requires
index-requires g c =
    let net = net_in c.args.plan.now in
    let same : c.graph.result.now ≡ graph_in net = c.graph.ensures ∙ ap (λ (f : FlowGraph). f.graph) c.args.plan.now.own_flow in
    let below : c.to-piece.result < (graph_in net).nodes = subst (λ (h : Graph). c.to-piece.result < h.nodes) same c.to-piece.ensures.exists in
    let count = mapped_length (outs (graph_in net)) c.args.outs.now.items (graph_in net).nodes c.requires.outs in
    omega (arith, below, count)

pub returns-then-is_idle : goal.returns-then-is_idle
returns-then-is_idle g c =
    let net = net_in c.args.plan.now in
    let same : c.graph.result.now ≡ graph_in net = c.graph.ensures ∙ ap (λ (f : FlowGraph). f.graph) c.args.plan.now.own_flow in
    let below : c.to-piece.result < (graph_in net).nodes = subst (λ (h : Graph). c.to-piece.result < h.nodes) same c.to-piece.ensures.exists in
    let at : c.to-piece.result ≡ to (graph_in net) c.args.edge = c.to-piece.ensures.node ∙ ap (λ (h : Graph). to h c.args.edge) same in
    let idle : is_idle net (to (graph_in net) c.args.edge) ≡ true = ap (is_idle net) (sym at) ∙ sym c.is_idle.ensures ∙ c.if-is_idle.true in
    passed_if net c.args.edge c.out_at.result idle
    (c.out_at.ensures
    ∙ ap (λ (es : List ℕ). slice_index es 0) (c.index.ensures ∙ mapped_at (outs (graph_in net)) c.args.outs.now.items (graph_in net).nodes c.to-piece.result c.index.result.now c.requires.outs below)
    ∙ ap (λ (p : ℕ). out (graph_in net) p 0) at)

pub returns-else-is_idle : goal.returns-else-is_idle
returns-else-is_idle g c =
    let net = net_in c.args.plan.now in
    let same : c.graph.result.now ≡ graph_in net = c.graph.ensures ∙ ap (λ (f : FlowGraph). f.graph) c.args.plan.now.own_flow in
    let at : c.to-piece.result ≡ to (graph_in net) c.args.edge = c.to-piece.ensures.node ∙ ap (λ (h : Graph). to h c.args.edge) same in
    let busy : is_idle net (to (graph_in net) c.args.edge) ≡ false = ap (is_idle net) (sym at) ∙ sym c.is_idle.ensures ∙ c.if-is_idle.false in
    passed_unless net c.args.edge busy
