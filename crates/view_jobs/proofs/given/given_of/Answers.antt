use Rattle.view_jobs.proofs.Known.{plain_given}
use Rattle.view_jobs.proofs.given.given_of.Goals as goal

pub returns-then-not-program-clause-text : goal.returns-then-not-program-clause-text
returns-then-not-program-clause-text c = (plain_given c.args.program.is_wide c.args.source.items c.as_it_is.result.lowered c.if-not-program.true c.as_it_is.ensures.lowered, c.as_it_is.ensures.source)
