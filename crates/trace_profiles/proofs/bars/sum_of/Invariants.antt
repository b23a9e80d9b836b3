use Rattle.std.proofs.Common.{◌≡◌, take}
use Rattle.trace_profiles.specs.Profiles.{all_of}
use Rattle.trace_profiles.proofs.bars.sum_of.Given as goal

abbrev pub invariant-loop-width : goal.invariant-loop-width
invariant-loop-width l = l.all ≡ all_of (take l.width-index l.widths)
