use Rattle.read_back.proofs.ReadLoops.{loops_same}
use Rattle.read_back.proofs.declarations.printed_loops_are_read_again.Goals as goal

pub returns : goal.returns
returns c = loops_same
