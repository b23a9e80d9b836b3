use Rattle.std.proofs.Common.{◌≡◌, drop, max}
use Rattle.trace_profiles.specs.Rounds.{greatest}
use Rattle.trace_profiles.proofs.bars.greatest.Given as goal

abbrev pub invariant-loop-width : goal.invariant-loop-width
invariant-loop-width l = max l.most (greatest (drop l.width-index l.widths)) ≡ greatest l.widths
