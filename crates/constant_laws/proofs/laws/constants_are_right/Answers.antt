use Rattle.std.proofs.Common.{◌+◌, refl}
use Rattle.alias_classes.specs.Classes.{class_count}
use Rattle.cfg_build.specs.Flow.{flow}
use Rattle.constant_laws.proofs.Runs.{right, decided}
use Rattle.constant_laws.proofs.laws.constants_are_right.Goals as goal

pub returns-clause-values : goal.returns-clause-values
returns-clause-values c = λ p k touches tree r t input n routed closed run.
    let program = c.program_facts.ensures.program p (flow p.execs) routed.well_formed refl in
    let strong = c.program_facts.ensures.strong p routed.well_formed in
    let places = c.place_facts.ensures (flow p.execs).graph tree touches (class_count k + 1) r strong routed.is_tree routed.routing in
    let words = c.word_facts.ensures p k input routed.well_formed routed.classes in
    let runs = c.run_facts.ensures p input routed.well_formed in
    right p k touches tree r t routed closed program places input words runs n run

pub returns-clause-decisions : goal.returns-clause-decisions
returns-clause-decisions c = λ p k touches tree r t input n routed closed run s.
    let program = c.program_facts.ensures.program p (flow p.execs) routed.well_formed refl in
    let strong = c.program_facts.ensures.strong p routed.well_formed in
    let places = c.place_facts.ensures (flow p.execs).graph tree touches (class_count k + 1) r strong routed.is_tree routed.routing in
    let words = c.word_facts.ensures p k input routed.well_formed routed.classes in
    let runs = c.run_facts.ensures p input routed.well_formed in
    decided p k touches tree r t routed closed program places input words runs n run s
