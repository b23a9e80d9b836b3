use Rattle.f77_layout.proofs.ToldLines.{lowest-first}
use Rattle.f77_layout.proofs.laws.first_faults_are_lowest.Goals as goal

pub returns : goal.returns
returns c = lowest-first
