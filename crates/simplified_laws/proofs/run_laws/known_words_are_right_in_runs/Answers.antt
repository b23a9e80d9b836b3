use Rattle.cfg_build.specs.Flow.{flow}
use Rattle.simplified_laws.proofs.RunsRight.{runs-right}
use Rattle.simplified_laws.proofs.run_laws.known_words_are_right_in_runs.Goals as goal

pub returns : goal.returns
returns a = λ p c touches tree r t input n routed constants words runs.
    let g = (flow p.execs).graph in
    let well = routed.well_formed.execs in
    let can = a.well_formed_programs_can_run.ensures p routed.well_formed in
    let strong = a.flow_graph_is_strong.ensures p.names p.execs p.loops well in
    runs-right p c touches tree r t input routed constants
    (record {
      strong = strong;
      shape = a.flow_graph_has_shape.ensures p.names p.execs p.loops well;
      lines = record {
        touching = λ line node. a.free_nodes.ensures.touching g tree touches line node;
        start = λ line. a.free_nodes.ensures.start g tree touches line strong routed.is_tree;
        exists = λ line e f. a.next_edges.ensures.exists g tree touches line e f strong routed.is_tree;
        wire = λ line e f. a.next_edges.ensures.wire g tree touches line e f strong routed.is_tree;
        arrives = λ line e. a.places_over_a_pass.ensures.arrives g tree touches line e strong routed.is_tree;
      };
      words = record { known = a.known_values_are_right.ensures.value; values = a.runs_hold_words.ensures.values };
      initial = (a.runs_hold_words.ensures.states p input 0 routed.well_formed words).store;
      told = a.reaching_is_told.ensures;
      lead = a.executables_lead_to_successors.ensures;
      own = λ k exec. a.executables_have_own_pieces.ensures p.names p.execs p.loops k exec;
      one_piece = λ k exec. a.own_pieces_stand_in_chains.ensures p k exec;
      within = λ m i. a.passes_lie_within_steps.ensures.within p input m i well;
      edges = λ m. a.passes_are_a_walk.ensures.edges p input m well;
      right = λ m. a.constants_are_right.ensures.values p c touches tree r t input m routed constants.closed;
      live = λ m. a.live_edges_have_values.ensures.runs p c touches tree r t input m routed constants.closed;
      selected = λ e v. a.live_decisions_are_known.ensures p c touches tree r t e v routed constants.closed;
      position = λ m. a.runs_stay_inside.ensures.position p input m can;
      sizes = λ m. a.runs_stay_inside.ensures.memory p input m can;
      holds = λ m. a.runs_hold_words.ensures.states p input m routed.well_formed words;
    })
    n runs
