use Rattle.f77_tree.specs.Execution.{outcome}
use Rattle.alias_classes.proofs.Framing.{agree-for, outcome-keeps}
use Rattle.alias_classes.proofs.laws.needs_are_a_frame.Goals as goal

pub returns-clause-decide : goal.returns-clause-decide
returns-clause-decide c = λ p t input m n kind is placed room other_room can agree.
    let covers = c.needs_cover_accesses.ensures in
    c.reads_decide.ensures.outcomes p input m n kind placed room other_room can (agree-for p.names t kind m n (λ word may. covers.reads p t kind word is placed can may) (λ k may. covers.reads_count t kind k may) agree)

pub returns-clause-keep : goal.returns-clause-keep
returns-clause-keep c = λ p t input m kind is placed can.
    let covers = c.needs_cover_accesses.ensures in
    outcome-keeps p.names t kind input m (outcome p.names input m kind) (λ word does. covers.changed p t input m kind word is placed can does) (λ k does. covers.sets_count t kind k does) (λ k does. covers.sets_step t kind k does) (c.executables_keep_the_rest.ensures.rest p.names input m kind)
