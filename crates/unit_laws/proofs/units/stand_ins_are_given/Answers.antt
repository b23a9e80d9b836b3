use Rattle.unit_laws.proofs.StandInsGiven.{stand_in-given, stand_in-plain}
use Rattle.unit_laws.proofs.units.stand_ins_are_given.Goals as goal

pub returns-clause-given : goal.returns-clause-given
returns-clause-given c = stand_in-given

pub returns-clause-plain : goal.returns-clause-plain
returns-clause-plain c = stand_in-plain
