use Rattle.std.proofs.Common.{◌≡◌, ◌<◌, ℕ, length, sym, ap, ◌∙◌, subst}
use Rattle.closed_walks.specs.Graph.{edge_count}
use Rattle.cfg_build.specs.Flow.{flow}
use Rattle.cfg_build.specs.Joined.{FlowGraph, finish}
use Rattle.cfg_build.specs.Shape.{IsShaped}
use Rattle.dep_routing.specs.Routing.{next_at}
use Rattle.dep_routing.specs.Touch.{touches_in}
use Rattle.net_tables.proofs.new_board.make_plan.Goals as goal

pub invariant_of-result : goal.invariant_of-result
invariant_of-result g c =
    let p = c.args.p.now in
    let parts = c.requires.parts in
    let well = parts.program.execs in
    let own : c.args.f.now ≡ flow p.execs = parts.own_flow in
    let shape : IsShaped (flow p.execs) (finish p.execs) = c.flow_graph_has_shape.ensures p.names p.execs p.loops well in
    record {
      width = c.requires.width;
      own_flow = own;
      sets = c.requires.sets ∙ ap (λ (f : FlowGraph). f.graph.nodes) (sym own);
      pieces = ap (λ (f : FlowGraph). length f.pieces) own ∙ shape.count ∙ ap (λ (f : FlowGraph). f.graph.nodes) (sym own);
      two_edges = subst (λ (f : FlowGraph). 1 < edge_count f.graph) (sym own) shape.two_edges;
      few_lines = c.requires.few;
      wires = parts.own_routing.edges ∙ ap (λ (f : FlowGraph). edge_count f.graph) (sym own);
      led = subst (λ (f : FlowGraph). (line edge : ℕ) → line < c.args.l.now.lines → edge < edge_count f.graph → next_at c.args.l.now line edge < edge_count f.graph) (sym own)
          (c.parts_lead_lines.ensures p c.args.f.now (touches_in c.args.touch.now) c.args.l.now parts);
    }
