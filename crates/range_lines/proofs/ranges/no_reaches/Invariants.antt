use Rattle.std.proofs.Common.{◌≡◌, None, replicate}
use Rattle.range_lines.proofs.ranges.no_reaches.Given as goal

abbrev pub invariant-loop-k : goal.invariant-loop-k
invariant-loop-k l = l.current.items ≡ replicate l._k None
