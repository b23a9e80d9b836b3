use Rattle.std.proofs.Common.{take}
use Rattle.lane_charts.specs.Page.{AreSections}
use Rattle.lane_charts.proofs.pages.sections_of.Given as goal

abbrev pub invariant-loop-run : goal.invariant-loop-run
invariant-loop-run l = AreSections l.graph l.chart (take l.run-index l.runs) l.sections.items
