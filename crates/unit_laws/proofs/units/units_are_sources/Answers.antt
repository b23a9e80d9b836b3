use Rattle.unit_laws.proofs.UnitSources.{unit-source}
use Rattle.unit_laws.proofs.units.units_are_sources.Goals as goal

pub returns : goal.returns
returns c = unit-source
