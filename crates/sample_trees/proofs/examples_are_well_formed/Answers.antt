use Rattle.sample_trees.proofs.Looping.{looping-well_formed}
use Rattle.sample_trees.proofs.Whole.{whole-well_formed}
use Rattle.sample_trees.proofs.examples_are_well_formed.Goals as goal

pub returns-clause-whole : goal.returns-clause-whole
returns-clause-whole c = whole-well_formed

pub returns-clause-looping : goal.returns-clause-looping
returns-clause-looping c = looping-well_formed
