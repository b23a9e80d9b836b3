use Rattle.std.proofs.Common.{◌≡◌, vec_len, sym, ap, subst, ◌∙◌, ◌-◌, arith}
use Rattle.closed_walks.specs.Graph.{IsGraph, edge_count}
use Rattle.cfg_build.specs.Joined.{FlowGraph}
use Rattle.cfg_build.specs.Flow.{flow}
use Rattle.cfg_build.specs.Tables.{drawn_as}
use Rattle.cfg_build.proofs.FlowDrawn.{HoldsFit, holds_fit, few_nodes, few_edges, sound, none_held, few_flow_nodes, few_flow_edges, flow_strong}
use Rattle.cfg_build.proofs.flow.flow_of.Goals as goal

pub graph_of-requires-clause-sound : goal.graph_of-requires-clause-sound
graph_of-requires-clause-sound c =
    subst (λ (f : FlowGraph). IsGraph f.graph) (sym c.in_ok-drawing.ensures) (sound c.reaching_is_told.ensures c.endless_ways_meet_cycles.ensures c.args.p.now.names c.args.p.now.execs c.args.p.now.loops c.requires.execs)

pub graph_of-requires-clause-pieces : goal.graph_of-requires-clause-pieces
graph_of-requires-clause-pieces c =
    grind (arith, few_nodes c.reaching_is_told.ensures c.endless_ways_meet_cycles.ensures c.args.p.now.names c.args.p.now.execs c.args.p.now.loops c.requires.execs)

pub graph_of-requires-clause-edges : goal.graph_of-requires-clause-edges
graph_of-requires-clause-edges c =
    grind (arith, few_edges c.reaching_is_told.ensures c.endless_ways_meet_cycles.ensures c.args.p.now.names c.args.p.now.execs c.args.p.now.loops c.requires.execs)

pub put_holds-requires-clause-nodes : goal.put_holds-requires-clause-nodes
put_holds-requires-clause-nodes c =
    grind (arith, holds_fit c.reaching_is_told.ensures c.endless_ways_meet_cycles.ensures c.args.p.now.names c.args.p.now.execs c.args.p.now.loops c.requires.execs (drawn_as c.in_ok-drawing.drawing) c.in_ok-graph.graph (c.nodes-finish.result - 1) c.deref.result.now c.in_ok-drawing.ensures c.in_ok-graph.ensures)

pub put_holds-requires-clause-held : goal.put_holds-requires-clause-held
put_holds-requires-clause-held c =
    grind (arith, holds_fit c.reaching_is_told.ensures c.endless_ways_meet_cycles.ensures c.args.p.now.names c.args.p.now.execs c.args.p.now.loops c.requires.execs (drawn_as c.in_ok-drawing.drawing) c.in_ok-graph.graph (c.nodes-finish.result - 1) c.deref.result.now c.in_ok-drawing.ensures c.in_ok-graph.ensures)

pub put_holds-requires-clause-few : goal.put_holds-requires-clause-few
put_holds-requires-clause-few c =
    grind (arith, holds_fit c.reaching_is_told.ensures c.endless_ways_meet_cycles.ensures c.args.p.now.names c.args.p.now.execs c.args.p.now.loops c.requires.execs (drawn_as c.in_ok-drawing.drawing) c.in_ok-graph.graph (c.nodes-finish.result - 1) c.deref.result.now c.in_ok-drawing.ensures c.in_ok-graph.ensures)

pub graph_of-requires-2-clause-sound : goal.graph_of-requires-2-clause-sound
graph_of-requires-2-clause-sound c =
    grind (arith, holds_fit c.reaching_is_told.ensures c.endless_ways_meet_cycles.ensures c.args.p.now.names c.args.p.now.execs c.args.p.now.loops c.requires.execs (drawn_as c.in_ok-drawing.drawing) c.in_ok-graph.graph (c.nodes-finish.result - 1) c.deref.result.now c.in_ok-drawing.ensures c.in_ok-graph.ensures, flow_strong c.reaching_is_told.ensures c.endless_ways_meet_cycles.ensures c.args.p.now.names c.args.p.now.execs c.args.p.now.loops c.requires.execs)

pub graph_of-requires-2-clause-pieces : goal.graph_of-requires-2-clause-pieces
graph_of-requires-2-clause-pieces c =
    grind (arith, holds_fit c.reaching_is_told.ensures c.endless_ways_meet_cycles.ensures c.args.p.now.names c.args.p.now.execs c.args.p.now.loops c.requires.execs (drawn_as c.in_ok-drawing.drawing) c.in_ok-graph.graph (c.nodes-finish.result - 1) c.deref.result.now c.in_ok-drawing.ensures c.in_ok-graph.ensures, few_flow_nodes c.reaching_is_told.ensures c.endless_ways_meet_cycles.ensures c.args.p.now.names c.args.p.now.execs c.args.p.now.loops c.requires.execs)

pub graph_of-requires-2-clause-edges : goal.graph_of-requires-2-clause-edges
graph_of-requires-2-clause-edges c =
    let fit : HoldsFit (drawn_as c.in_ok-drawing.drawing) c.in_ok-graph.graph (c.nodes-finish.result - 1) c.deref.result.now (flow c.args.p.now.execs) =
    holds_fit c.reaching_is_told.ensures c.endless_ways_meet_cycles.ensures c.args.p.now.names c.args.p.now.execs c.args.p.now.loops c.requires.execs
    (drawn_as c.in_ok-drawing.drawing) c.in_ok-graph.graph (c.nodes-finish.result - 1) c.deref.result.now
    c.in_ok-drawing.ensures c.in_ok-graph.ensures (ap (λ n. n - 1) c.nodes-finish.ensures.count) (c.deref.ensures.value ∙ c.in_ok-held.ensures) in
    let drawn : drawn_as c.put_holds.new.drawing ≡ flow c.args.p.now.execs = c.in_ok-put_holds.ensures ∙ fit.is in
    let same = ap (λ (f : FlowGraph). edge_count f.graph) drawn in
    omega (arith, same, few_flow_edges c.reaching_is_told.ensures c.endless_ways_meet_cycles.ensures c.args.p.now.names c.args.p.now.execs c.args.p.now.loops c.requires.execs)

pub returns-clause-flow : goal.returns-clause-flow
returns-clause-flow c =
    grind (arith, holds_fit c.reaching_is_told.ensures c.endless_ways_meet_cycles.ensures c.args.p.now.names c.args.p.now.execs c.args.p.now.loops c.requires.execs (drawn_as c.in_ok-drawing.drawing) c.in_ok-graph.graph (c.nodes-finish.result - 1) c.deref.result.now c.in_ok-drawing.ensures c.in_ok-graph.ensures)

pub returns-clause-flow_graph : goal.returns-clause-flow_graph
returns-clause-flow_graph c =
    grind (arith, holds_fit c.reaching_is_told.ensures c.endless_ways_meet_cycles.ensures c.args.p.now.names c.args.p.now.execs c.args.p.now.loops c.requires.execs (drawn_as c.in_ok-drawing.drawing) c.in_ok-graph.graph (c.nodes-finish.result - 1) c.deref.result.now c.in_ok-drawing.ensures c.in_ok-graph.ensures, flow_strong c.reaching_is_told.ensures c.endless_ways_meet_cycles.ensures c.args.p.now.names c.args.p.now.execs c.args.p.now.loops c.requires.execs)

pub returns-then-is_empty-clause-flow : goal.returns-then-is_empty-clause-flow
returns-then-is_empty-clause-flow c =
    grind (arith, holds_fit c.reaching_is_told.ensures c.endless_ways_meet_cycles.ensures c.args.p.now.names c.args.p.now.execs c.args.p.now.loops c.requires.execs (drawn_as c.in_ok-drawing.drawing) c.in_ok-graph.graph (c.nodes-finish.result - 1) c.in_ok-held.held.items c.in_ok-drawing.ensures c.in_ok-graph.ensures, vec_len c.in_ok-held.held, none_held (drawn_as c.in_ok-drawing.drawing) c.in_ok-graph.graph (c.nodes-finish.result - 1) c.in_ok-held.held.items (flow c.args.p.now.execs))

pub returns-then-is_empty-clause-flow_graph : goal.returns-then-is_empty-clause-flow_graph
returns-then-is_empty-clause-flow_graph c =
    grind (arith, holds_fit c.reaching_is_told.ensures c.endless_ways_meet_cycles.ensures c.args.p.now.names c.args.p.now.execs c.args.p.now.loops c.requires.execs (drawn_as c.in_ok-drawing.drawing) c.in_ok-graph.graph (c.nodes-finish.result - 1) c.in_ok-held.held.items c.in_ok-drawing.ensures c.in_ok-graph.ensures, vec_len c.in_ok-held.held, none_held (drawn_as c.in_ok-drawing.drawing) c.in_ok-graph.graph (c.nodes-finish.result - 1) c.in_ok-held.held.items (flow c.args.p.now.execs), flow_strong c.reaching_is_told.ensures c.endless_ways_meet_cycles.ensures c.args.p.now.names c.args.p.now.execs c.args.p.now.loops c.requires.execs)
