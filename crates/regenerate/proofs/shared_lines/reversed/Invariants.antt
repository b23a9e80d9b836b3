use Rattle.std.proofs.Common.{◌≡◌, ◌++◌, length, reverse}
use Rattle.regenerate.proofs.shared_lines.reversed.Given as goal

abbrev pub invariant-loop-l : goal.invariant-loop-l
invariant-loop-l l = record {
  turned : l.fn.flat ≡ l.rest ++ reverse l.turned;
}

abbrev pub decreases-loop-l : goal.decreases-loop-l
decreases-loop-l l = length l.rest
