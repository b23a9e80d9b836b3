use Rattle.std.proofs.Common.{arith}
use Rattle.firing.proofs.MarkLemmas.{below_next, below_all, same_mark}
use Rattle.firing.proofs.marks.mark_ready.Goals as goal
use Rattle.std.proofs.lemmas.Grind.{elements}

pub loop-k-preserved : goal.loop-k-preserved
loop-k-preserved g c = grind (arith, elements, same_mark, below_next)

pub returns-clause-marks : goal.returns-clause-marks
returns-clause-marks g c = grind (arith, below_all)
