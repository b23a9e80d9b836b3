use Rattle.f77_tree.proofs.RunEnds.{stops-within}
use Rattle.f77_tree.proofs.laws.runs_stop_first.Goals as goal

pub returns : goal.returns
returns c = stops-within
