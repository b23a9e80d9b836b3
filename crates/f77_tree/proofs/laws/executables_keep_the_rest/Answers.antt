use Rattle.f77_tree.proofs.Agreement.{changes-may_change}
use Rattle.f77_tree.proofs.Keeping.{outcome-keeps}
use Rattle.f77_tree.proofs.laws.executables_keep_the_rest.Goals as goal

pub returns-clause-rest : goal.returns-clause-rest
returns-clause-rest c = outcome-keeps

pub returns-clause-changes : goal.returns-clause-changes
returns-clause-changes c = changes-may_change
