use Rattle.shared_laws.proofs.SharedCounts.{due-few, steps-few, steps-taken-by}
use Rattle.shared_laws.proofs.shared_runs.shared_steps_are_few.Goals as goal

pub returns-clause-due : goal.returns-clause-due
returns-clause-due g = λ q r c a k exec is at. due-few q r c a k exec is at

pub returns-clause-operations : goal.returns-clause-operations
returns-clause-operations g = λ q r c a input n is.
    let can = g.well_formed_programs_can_run.ensures q is.program in
    steps-taken-by q r c a input n is (λ m. g.runs_stay_inside.ensures.position q input m can)

pub returns-clause-steps : goal.returns-clause-steps
returns-clause-steps g = λ q r c a input n is.
    let can = g.well_formed_programs_can_run.ensures q is.program in
    steps-few q r c a input n is (λ m. g.runs_stay_inside.ensures.position q input m can) (g.runs_take_few_operations.ensures q input n)
