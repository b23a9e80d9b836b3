use Rattle.std.proofs.Common.{◌+◌, refl}
use Rattle.alias_classes.specs.Classes.{class_count}
use Rattle.cfg_build.specs.Flow.{flow}
use Rattle.constant_laws.proofs.Living.{live-met, live-decided, runs_live}
use Rattle.constant_laws.proofs.laws.live_edges_have_values.Goals as goal

pub returns-clause-values : goal.returns-clause-values
returns-clause-values c = λ p k touches tree r t e line h routed closed live l at.
    let program = c.program_facts.ensures.program p (flow p.execs) routed.well_formed refl in
    let strong = c.program_facts.ensures.strong p routed.well_formed in
    let places = c.place_facts.ensures (flow p.execs).graph tree touches (class_count k + 1) r strong routed.is_tree routed.routing in
    live-met p k touches tree r t routed closed program places e live line h l at

pub returns-clause-decisions : goal.returns-clause-decisions
returns-clause-decisions c = λ p k touches tree r t e routed closed live s.
    let program = c.program_facts.ensures.program p (flow p.execs) routed.well_formed refl in
    let strong = c.program_facts.ensures.strong p routed.well_formed in
    let places = c.place_facts.ensures (flow p.execs).graph tree touches (class_count k + 1) r strong routed.is_tree routed.routing in
    live-decided p k touches tree r t routed closed program places e live s

pub returns-clause-runs : goal.returns-clause-runs
returns-clause-runs c = λ p k touches tree r t input n routed closed run.
    let program = c.program_facts.ensures.program p (flow p.execs) routed.well_formed refl in
    let runs = c.run_facts.ensures p input routed.well_formed in
    runs_live p t input program runs (λ i ran s. c.constants_are_right.ensures.decisions p k touches tree r t input i routed closed ran s) n run
