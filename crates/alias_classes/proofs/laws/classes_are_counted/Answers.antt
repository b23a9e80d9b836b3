use Rattle.alias_classes.proofs.FirstWords.{as-many}
use Rattle.alias_classes.proofs.laws.classes_are_counted.Goals as goal

pub returns : goal.returns
returns c = as-many
