use Rattle.called_runs.proofs.ExpandedTexts.{expanded}
use Rattle.called_runs.proofs.expanded.laid_expansions_are_expanded.Goals as goal

pub returns : goal.returns
returns c = expanded
