use Rattle.unit_laws.proofs.MainNames.{main-own}
use Rattle.unit_laws.proofs.NotedEntities.{noted}
use Rattle.unit_laws.proofs.OwnNames.{names-apart, names-free}
use Rattle.unit_laws.proofs.UsedNames.{names-new}
use Rattle.unit_laws.proofs.units.own_names_are_new.Goals as goal

pub returns : goal.returns
returns c = record { kept = main-own; noted = noted; free = names-free; others = names-new; apart = names-apart }
