use Rattle.f77_tree.proofs.LongerTable.{value-longer, place-longer, outcome-longer}
use Rattle.f77_tree.proofs.laws.longer_tables_agree.Goals as goal

pub returns-clause-values : goal.returns-clause-values
returns-clause-values c = value-longer

pub returns-clause-places : goal.returns-clause-places
returns-clause-places c = place-longer

pub returns-clause-outcomes : goal.returns-clause-outcomes
returns-clause-outcomes c = outcome-longer
