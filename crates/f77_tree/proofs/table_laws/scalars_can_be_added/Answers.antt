use Rattle.f77_tree.proofs.AddedNames.{declarations-longer, executable-longer}
use Rattle.f77_tree.proofs.AddedPlaces.{places-longer}
use Rattle.f77_tree.proofs.AddedWords.{initial-longer}
use Rattle.f77_tree.proofs.table_laws.scalars_can_be_added.Goals as goal

pub returns-clause-declarations : goal.returns-clause-declarations
returns-clause-declarations c = λ names more commons groups inits words new are. declarations-longer names more words commons groups inits new are

pub returns-clause-executables : goal.returns-clause-executables
returns-clause-executables c = executable-longer

pub returns-clause-places : goal.returns-clause-places
returns-clause-places c = places-longer

pub returns-clause-initial : goal.returns-clause-initial
returns-clause-initial c = initial-longer
