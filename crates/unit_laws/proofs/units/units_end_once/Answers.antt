use Rattle.unit_laws.proofs.PositiveLabels.{do-label}
use Rattle.unit_laws.proofs.UnitSources.{IsUnit, text-unit}
use Rattle.unit_laws.proofs.units.units_end_once.Goals as goal

pub returns-clause-ended : goal.returns-clause-ended
returns-clause-ended c = λ stmts text k u here. IsUnit.once (text-unit stmts text k u here)

pub returns-clause-labels : goal.returns-clause-labels
returns-clause-labels c = do-label
