use Rattle.cfg_build.specs.Flow.{flow}
use Rattle.cfg_build.specs.Passes.{passes, out}
use Rattle.dep_routing.specs.Sound.{comes_to}
use Rattle.dep_routing.specs.Touches.{piece_kind, exec_kind}
use Rattle.dep_routing.proofs.TrapTouches.{piece-traps, tells}
use Rattle.dep_routing.proofs.touch_laws.traps_touch_output.Goals as goal

pub returns : goal.returns
returns c = λ p classes touches input n is are words running traps.
    let x = passes p input n in
    let node = comes_to p input n in
    let strong = c.flow_graph_is_strong.ensures p.names p.execs p.loops is.execs in
    let below = strong.sound.ends x.edge (c.passes_are_a_walk.ensures.edges p input n is.execs) in
    let store = (c.passes_hold_words.ensures p input n is words).store in
    tells (touches node 0) (are node 0 below).1 (λ none. piece-traps p input x.memory (λ kind can. c.what_cannot_trap_does_not.ensures.words p.names input x.memory kind store can) classes node (out (flow p.execs).graph node) (piece_kind p node) (exec_kind p node) none traps)
