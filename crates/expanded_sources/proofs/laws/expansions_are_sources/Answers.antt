use Rattle.expanded_sources.proofs.ListedSources.{list-ended, list-few, list-labels}
use Rattle.expanded_sources.proofs.PlainPieces.{list-plain}
use Rattle.expanded_sources.proofs.TreePieces.{list-trees}
use Rattle.expanded_sources.proofs.laws.expansions_are_sources.Goals as goal

pub returns : goal.returns
returns c = λ stmts list checked text made. record {
  trees = list-trees stmts list checked text made;
  no_subroutines = list-plain stmts list checked text made;
  labels = list-labels stmts list checked text made;
  few = list-few stmts list checked text made;
  ended = list-ended stmts list checked text made;
}
