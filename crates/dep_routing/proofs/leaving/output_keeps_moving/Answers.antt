use Rattle.cfg_build.specs.Flow.{flow}
use Rattle.dep_routing.proofs.Moving.{keeps_moving}
use Rattle.dep_routing.proofs.leaving.output_keeps_moving.Goals as goal

pub returns : goal.returns
returns c = λ p table t touches input n well tree sound words running. keeps_moving p t touches (c.tree_facts.ensures (flow p.execs).graph t (c.flow_graph_is_strong.ensures p.names p.execs p.loops well) tree) sound.leaves input words (λ i. c.passes_are_a_walk.ensures.edges p input i well) (λ i runs. c.runs_leave_the_start.ensures p input i well runs) n running
