use Rattle.f77_expr.proofs.Readings.{one-written, one-end}
use Rattle.f77_expr.proofs.laws.one_reading.Goals as goal

-- src/laws.rt:10:1
pub returns-clause-whole : goal.returns-clause-whole
returns-clause-whole c = one-written

-- src/laws.rt:10:1
pub returns-clause-prefix : goal.returns-clause-prefix
returns-clause-prefix c = one-end
