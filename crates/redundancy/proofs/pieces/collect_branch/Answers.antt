use Rattle.redundancy.proofs.Growing.{grown-none}
use Rattle.redundancy.proofs.pieces.collect_branch.Goals as goal

pub returns-in-DoStart : goal.returns-in-DoStart
returns-in-DoStart c = rw c.in-DoStart.is (grown-none c.args.names.now c.args.found.now.items)
