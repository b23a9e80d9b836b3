use Rattle.sample_trees.proofs.Counts.{add-nine}
use Rattle.sample_trees.proofs.operations_are_counted.Goals as goal

pub returns : goal.returns
returns c = add-nine
