use Rattle.read_forks.proofs.fork_system.ForkNetStepSystem.keep_ready.Goals as goal

pub returns-clause-keeps : goal.returns-clause-keeps
returns-clause-keeps g c = c.mark_all.ensures.keeps
