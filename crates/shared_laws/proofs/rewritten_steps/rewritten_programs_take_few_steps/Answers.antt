use Rattle.shared_laws.proofs.RewrittenRuns.{rewritten-follow}
use Rattle.shared_laws.proofs.rewritten_steps.rewritten_programs_take_few_steps.Goals as goal

pub returns : goal.returns
returns c = rewritten-follow c.shared_programs_follow.ensures.steps c.shared_steps_are_few.ensures.operations c.runs_take_few_operations.ensures c.simplified_programs_print_alike.ensures.steps
