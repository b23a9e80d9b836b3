use Rattle.dep_routing.proofs.SomeTouches.{act_touches, branch_touches, hold_touches}
use Rattle.dep_routing.proofs.touch_laws.pieces_touch_lines.Goals as goal

pub returns-clause-acts : goal.returns-clause-acts
returns-clause-acts c = λ p t tree touches node is classes sound exists acts.
    act_touches p t touches is classes tree sound node exists (λ kind n can needs. c.needs_are_numbered.ensures p t kind n is classes can needs) (c.well_formed_programs_can_run.ensures p is) acts
    (c.pieces_run_executables.ensures.acts p.names p.execs p.loops node is.execs exists acts)

pub returns-clause-branches : goal.returns-clause-branches
returns-clause-branches c = λ p t tree touches node is classes sound exists branches.
    branch_touches p t touches is classes tree sound node exists (λ kind n can needs. c.needs_are_numbered.ensures p t kind n is classes can needs) (c.well_formed_programs_can_run.ensures p is) branches
    (c.pieces_run_executables.ensures.branches p.names p.execs p.loops node is.execs exists branches)

pub returns-clause-holds : goal.returns-clause-holds
returns-clause-holds c = λ p t tree touches node is classes sound exists holds. hold_touches p t touches is classes tree sound node exists holds
