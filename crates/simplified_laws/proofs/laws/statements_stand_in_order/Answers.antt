use Rattle.simplified_laws.proofs.ItemPlaces.{marks-stand, statements-stand}
use Rattle.simplified_laws.proofs.laws.statements_stand_in_order.Goals as goal

pub returns-clause-marks : goal.returns-clause-marks
returns-clause-marks c = marks-stand

pub returns-clause-statements : goal.returns-clause-statements
returns-clause-statements c = statements-stand
