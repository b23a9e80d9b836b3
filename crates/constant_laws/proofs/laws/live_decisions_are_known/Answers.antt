use Rattle.std.proofs.Common.{◌+◌, refl}
use Rattle.alias_classes.specs.Classes.{class_count}
use Rattle.cfg_build.specs.Flow.{flow}
use Rattle.constant_laws.proofs.Living.{live-out}
use Rattle.constant_laws.proofs.laws.live_decisions_are_known.Goals as goal

pub returns : goal.returns
returns c = λ p k touches tree r t e v routed closed live s is.
    let program = c.program_facts.ensures.program p (flow p.execs) routed.well_formed refl in
    let strong = c.program_facts.ensures.strong p routed.well_formed in
    let places = c.place_facts.ensures (flow p.execs).graph tree touches (class_count k + 1) r strong routed.is_tree routed.routing in
    live-out p k touches tree r t routed closed program places e v live s is
