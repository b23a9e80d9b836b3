use Rattle.firing.proofs.FootprintLemmas.{lawful, shared_lawful}
use Rattle.firing.proofs.footprints.footprints_commute.Goals as goal

pub returns-clause-apart : goal.returns-clause-apart
returns-clause-apart g c = λ s foot has. lawful g.P.InParts.sound s g.P.InParts.at foot has

pub returns-clause-shared : goal.returns-clause-shared
returns-clause-shared g c = λ s foot shares update has. shared_lawful g.P.InParts.sound s g.P.InParts.at foot shares update has
