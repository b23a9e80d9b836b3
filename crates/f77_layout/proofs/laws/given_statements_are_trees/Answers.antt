use Rattle.f77_layout.proofs.GivenTrees.{given-IsTree}
use Rattle.f77_layout.proofs.laws.given_statements_are_trees.Goals as goal

pub returns : goal.returns
returns c = given-IsTree
