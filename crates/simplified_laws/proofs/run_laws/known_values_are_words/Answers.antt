use Rattle.std.proofs.Common.{[], arith}
use Rattle.cfg_build.specs.Flow.{flow}
use Rattle.simplified_laws.proofs.LeastTables.{values-words}
use Rattle.simplified_laws.proofs.run_laws.known_values_are_words.Goals as goal

pub returns : goal.returns
returns a = λ p c touches tree r t line e v routed constants l edge is.
    let g = (flow p.execs).graph in
    let well = routed.well_formed.execs in
    let strong = a.flow_graph_is_strong.ensures p.names p.execs p.loops well in
    values-words p c touches tree r routed strong (a.flow_graph_has_shape.ensures p.names p.execs p.loops well)
    (record {
      touching = λ n node. a.free_nodes.ensures.touching g tree touches n node;
      start = λ n. a.free_nodes.ensures.start g tree touches n strong routed.is_tree;
      exists = λ n d f. a.next_edges.ensures.exists g tree touches n d f strong routed.is_tree;
      wire = λ n d f. a.next_edges.ensures.wire g tree touches n d f strong routed.is_tree;
      arrives = λ n d. a.places_over_a_pass.ensures.arrives g tree touches n d strong routed.is_tree;
    })
    (record { known = a.known_values_are_right.ensures.value; values = a.runs_hold_words.ensures.values })
    (a.runs_hold_words.ensures.states p [] 0 routed.well_formed (λ k d less. absurd (omega (arith, less)))).store
    t constants line e v l edge is
