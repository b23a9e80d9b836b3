use Rattle.read_forks.proofs.new_steps.push_step.Goals as goal

pub returns-in-Op : goal.returns-in-Op
returns-in-Op g c = c.push_operation.ensures
