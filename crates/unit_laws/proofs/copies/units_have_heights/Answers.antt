use Rattle.unit_laws.proofs.UnitHeights.{are-heights, heights-few}
use Rattle.unit_laws.proofs.copies.units_have_heights.Goals as goal

pub returns : goal.returns
returns c = record { above = are-heights; few = heights-few }
