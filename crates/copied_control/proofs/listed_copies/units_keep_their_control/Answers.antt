use Rattle.copied_control.proofs.AcceptedUnits.{alone, closed-units, ends-in-units, placed}
use Rattle.unit_laws.proofs.ReachedUnits.{unit-ended, unit-inside}
use Rattle.copied_control.proofs.listed_copies.units_keep_their_control.Goals as goal

pub returns : goal.returns
returns c = record { closed = closed-units; ends = ends-in-units; alone = alone; placed = placed; inside = unit-inside; ended = unit-ended }
