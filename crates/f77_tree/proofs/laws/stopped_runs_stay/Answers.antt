use Rattle.f77_tree.proofs.RunLaws.{source-ended, source-trapped, out-grows}
use Rattle.f77_tree.proofs.laws.stopped_runs_stay.Goals as goal

pub returns-clause-ended : goal.returns-clause-ended
returns-clause-ended c = source-ended

pub returns-clause-trapped : goal.returns-clause-trapped
returns-clause-trapped c = source-trapped

pub returns-clause-text : goal.returns-clause-text
returns-clause-text c = out-grows
