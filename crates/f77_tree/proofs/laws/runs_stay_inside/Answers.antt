use Rattle.f77_tree.proofs.RunInvariants.{source-position, source-memory}
use Rattle.f77_tree.proofs.laws.runs_stay_inside.Goals as goal

pub returns-clause-position : goal.returns-clause-position
returns-clause-position c = source-position

pub returns-clause-memory : goal.returns-clause-memory
returns-clause-memory c = source-memory
