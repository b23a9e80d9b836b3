use Rattle.std.proofs.Common.{◌≡◌, ◌<◌, ◌∙◌, ℕ, true, false, Some, slice_get, sym, subst, arith}
use Rattle.closed_walks.specs.Graph.{to as to_piece}
use Rattle.net_board.specs.Nodes.{graph_in}
use Rattle.op_net.specs.NetView.{net_of}
use Rattle.operation_tables.specs.Waits.{node_total}
use Rattle.read_forks.specs.NodeLinks.{IsStep}
use Rattle.read_forks.proofs.FoundWays.{IsThatNode, over_line, way_behind, way_over}
use Rattle.read_forks.proofs.new_steps.way_over.Goals as goal

pub link_near-requires-clause-exist : goal.link_near-requires-clause-exist
link_near-requires-clause-exist g c =
    let x = net_of c.args.net.now in
    let steps = c.args.steps.now in
    let line = c.args.link.line in
    let edge = c.led_out-edge.result in
    let to = c.node_at-to.result in
    let next = c.at-next.result in
    let under = c.if-to-nodes.false in
    let count = c.nodes.ensures in
    let all = c.requires.steps.all in
    let low : to < node_total x = omega (arith, under, count) in
    let at : slice_get steps to ≡ Some next = c.at-next.ensures in
    let step : IsStep x c.args.links.now.items to next = c.requires.steps.each to next at in
    step.has_links.inside

pub link_near-requires-clause-rise : goal.link_near-requires-clause-rise
link_near-requires-clause-rise g c =
    let x = net_of c.args.net.now in
    let steps = c.args.steps.now in
    let line = c.args.link.line in
    let edge = c.led_out-edge.result in
    let to = c.node_at-to.result in
    let next = c.at-next.result in
    let under = c.if-to-nodes.false in
    let count = c.nodes.ensures in
    let all = c.requires.steps.all in
    let low : to < node_total x = omega (arith, under, count) in
    let at : slice_get steps to ≡ Some next = c.at-next.ensures in
    let step : IsStep x c.args.links.now.items to next = c.requires.steps.each to next at in
    step.rise

pub link_near-requires-clause-there : goal.link_near-requires-clause-there
link_near-requires-clause-there g c =
    let x = net_of c.args.net.now in
    let steps = c.args.steps.now in
    let line = c.args.link.line in
    let edge = c.led_out-edge.result in
    let to = c.node_at-to.result in
    let next = c.at-next.result in
    let under = c.if-to-nodes.false in
    let count = c.nodes.ensures in
    let all = c.requires.steps.all in
    let low : to < node_total x = omega (arith, under, count) in
    let at : slice_get steps to ≡ Some next = c.at-next.ensures in
    let step : IsStep x c.args.links.now.items to next = c.requires.steps.each to next at in
    over_line x line edge to c.node_at-to.ensures c.args.links.now.items c.args.step.piece c.args.step.number c.requires.last c.led_out-edge.ensures.edge c.led_out-edge.ensures.exists low next step c.if-next.true c.requires.line

pub returns-then-next : goal.returns-then-next
returns-then-next g c =
    let x = net_of c.args.net.now in
    let steps = c.args.steps.now in
    let line = c.args.link.line in
    let edge = c.led_out-edge.result in
    let to = c.node_at-to.result in
    let next = c.at-next.result in
    let under = c.if-to-nodes.false in
    let count = c.nodes.ensures in
    let all = c.requires.steps.all in
    let low : to < node_total x = omega (arith, under, count) in
    let at : slice_get steps to ≡ Some next = c.at-next.ensures in
    let step : IsStep x c.args.links.now.items to next = c.requires.steps.each to next at in
    ∣ way_over x line edge to c.node_at-to.ensures c.args.links.now.items c.args.step.piece c.args.step.number c.requires.last c.led_out-edge.ensures.edge c.led_out-edge.ensures.exists low next step c.if-next.true c.link_near.result c.link_near.ensures.line c.link_near.ensures.from c.link_near.ensures.below ∣₁

pub returns-else-next : goal.returns-else-next
returns-else-next g c =
    let x = net_of c.args.net.now in
    let steps = c.args.steps.now in
    let line = c.args.link.line in
    let edge = c.led_out-edge.result in
    let to = c.node_at-to.result in
    let next = c.at-next.result in
    let under = c.if-to-nodes.false in
    let count = c.nodes.ensures in
    let all = c.requires.steps.all in
    let low : to < node_total x = omega (arith, under, count) in
    let at : slice_get steps to ≡ Some next = c.at-next.ensures in
    let step : IsStep x c.args.links.now.items to next = c.requires.steps.each to next at in
    let head : to_piece (graph_in x.net) edge < (graph_in x.net).nodes = subst (λ (p : ℕ). p < (graph_in x.net).nodes) c.head-piece.ensures.piece c.head-piece.ensures.exists in
    let not : IsThatNode x line edge to c.node_at-to.ensures → ⊥ = λ that. (let e : true ≡ false = sym that.loads ∙ sym step.loads ∙ c.if-next.false in absurd cc) in
    ∣ way_behind x line edge to c.node_at-to.ensures c.args.links.now.items c.args.step.piece c.args.step.number c.requires.last c.led_out-edge.ensures.edge c.led_out-edge.ensures.exists head not ∣₁

pub returns-then-to-nodes : goal.returns-then-to-nodes
returns-then-to-nodes g c =
    let x = net_of c.args.net.now in
    let line = c.args.link.line in
    let edge = c.led_out-edge.result in
    let to = c.node_at-to.result in
    let over = c.if-to-nodes.true in
    let count = c.nodes.ensures in
    let head : to_piece (graph_in x.net) edge < (graph_in x.net).nodes = subst (λ (p : ℕ). p < (graph_in x.net).nodes) c.head-piece.ensures.piece c.head-piece.ensures.exists in
    let not : IsThatNode x line edge to c.node_at-to.ensures → ⊥ = λ that. (let low = that.low in absurd (omega (arith, low, over, count))) in
    ∣ way_behind x line edge to c.node_at-to.ensures c.args.links.now.items c.args.step.piece c.args.step.number c.requires.last c.led_out-edge.ensures.edge c.led_out-edge.ensures.exists head not ∣₁
