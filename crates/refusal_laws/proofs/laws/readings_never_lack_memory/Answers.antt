use Rattle.refusal_laws.proofs.Readings.{layouts-have-memory, lines-have-memory, statements-have-memory, unit-layouts-have-memory, units-have-memory}
use Rattle.refusal_laws.proofs.laws.readings_never_lack_memory.Goals as goal

pub returns-clause-lines : goal.returns-clause-lines
returns-clause-lines c = lines-have-memory

pub returns-clause-statements : goal.returns-clause-statements
returns-clause-statements c = statements-have-memory

pub returns-clause-layout : goal.returns-clause-layout
returns-clause-layout c = layouts-have-memory

pub returns-clause-units : goal.returns-clause-units
returns-clause-units c = units-have-memory

pub returns-clause-unit : goal.returns-clause-unit
returns-clause-unit c = unit-layouts-have-memory
