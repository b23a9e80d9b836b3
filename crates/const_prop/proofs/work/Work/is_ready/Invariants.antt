use Rattle.std.proofs.Common.{◌<◌, ℕ, get_or}
use Rattle.const_prop.specs.Known.{IsSomething}
use Rattle.const_prop.specs.Work.{so_far}
use Rattle.const_prop.proofs.work.Work.is_ready.Given as goal

abbrev pub invariant-loop-line : goal.invariant-loop-line
invariant-loop-line g l = (k : ℕ) → k < l.line-index → IsSomething ((so_far l.self).value (get_or l.line-items k 0) l.edge)
