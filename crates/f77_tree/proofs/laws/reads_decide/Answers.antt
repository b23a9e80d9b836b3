use Rattle.f77_tree.proofs.Agreement.{value-agrees, place-agrees, line-agrees}
use Rattle.f77_tree.proofs.OutcomesAlike.{outcomes-alike, changes-alike}
use Rattle.f77_tree.proofs.laws.reads_decide.Goals as goal

pub returns-clause-values : goal.returns-clause-values
returns-clause-values c = value-agrees

pub returns-clause-places : goal.returns-clause-places
returns-clause-places c = place-agrees

pub returns-clause-lines : goal.returns-clause-lines
returns-clause-lines c = line-agrees

pub returns-clause-outcomes : goal.returns-clause-outcomes
returns-clause-outcomes c = λ p input m n kind placed room_m room_n can agree. outcomes-alike p input m n placed room_m room_n kind can agree

pub returns-clause-changes : goal.returns-clause-changes
returns-clause-changes c = λ names input m n kind word agree. changes-alike names input m n kind agree word
