use Rattle.std.proofs.Common.{◌≡◌, ◌++◌, drop}
use Rattle.lane_charts.specs.Sections.{counts_from}
use Rattle.lane_charts.proofs.pages.counts_of.Given as goal

abbrev pub invariant-loop-firing : goal.invariant-loop-firing
invariant-loop-firing l = l.counts.items ++ counts_from l.nodes l.lines (drop l.firing-index l.firings) ≡ counts_from l.nodes 0 l.firings
