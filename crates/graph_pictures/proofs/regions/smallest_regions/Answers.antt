use Rattle.std.proofs.Common.{arith, ◌≡◌, length, subst}
use Rattle.printed_graphs.specs.declared.flow.PrintedFlow.{PrintedFlow}
use Rattle.graph_pictures.specs.FlowDot.{over_edges, smallest_regions}
use Rattle.graph_pictures.proofs.Sweeps.{idle_sweep, one_sweep}
use Rattle.graph_pictures.proofs.regions.smallest_regions.Goals as goal

pub returns-then-not-over_edges : goal.returns-then-not-over_edges
returns-then-not-over_edges c =
    let flow = c.args.flow.now in
    let old = c.loop.found.items in
    let next = c.over_edges.new.found.items in
    let is : next ≡ over_edges flow 0 flow.edges.items old = subst (λ (g : PrintedFlow). next ≡ over_edges g 0 g.edges.items old) c.in_ok-borders.ensures.flow c.over_edges.ensures.found in
    idle_sweep flow (length flow.pieces.items) c.loop.counter old next (smallest_regions flow) is (c.over_edges.ensures.same c.if-not-over_edges.true) c.loop.invariant

pub loop-preserved : goal.loop-preserved
loop-preserved c =
    let flow = c.args.flow.now in
    let old = c.loop.found.items in
    let next = c.over_edges.new.found.items in
    let is : next ≡ over_edges flow 0 flow.edges.items old = subst (λ (g : PrintedFlow). next ≡ over_edges g 0 g.edges.items old) c.in_ok-borders.ensures.flow c.over_edges.ensures.found in
    one_sweep flow (length flow.pieces.items) c.loop.counter old next (smallest_regions flow) (omega (arith, c.len-end.ensures, c.loop-test.true)) is c.loop.invariant
