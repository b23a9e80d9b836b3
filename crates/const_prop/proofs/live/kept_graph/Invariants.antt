use Rattle.std.proofs.Common.{get_or, false}
use Rattle.const_prop.specs.Kept.{IsKeptGraph}
use Rattle.const_prop.proofs.live.kept_graph.Given as goal

abbrev pub invariant-loop-e : goal.invariant-loop-e
invariant-loop-e l = IsKeptGraph l.g (λ e. get_or l.excluded e false) l.e l.kept
