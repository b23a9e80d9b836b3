use Rattle.unit_laws.proofs.TextNames.{text-short}
use Rattle.unit_laws.proofs.units.names_of_texts_are_short.Goals as goal

pub returns : goal.returns
returns c = text-short
