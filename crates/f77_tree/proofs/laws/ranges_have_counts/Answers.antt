use Rattle.f77_tree.proofs.LoopCounts.{range-counts, range-entered}
use Rattle.f77_tree.proofs.laws.ranges_have_counts.Goals as goal

pub returns-clause-counts : goal.returns-clause-counts
returns-clause-counts c = λ p input steps n can loops known inside. range-counts p input loops n known can steps inside

pub returns-clause-entered : goal.returns-clause-entered
returns-clause-entered c = λ p input n k exec m loops known at is outside. range-entered p input loops n known k exec m at is outside
