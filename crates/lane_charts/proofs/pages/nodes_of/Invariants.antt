use Rattle.std.proofs.Common.{◌≡◌, map, take}
use Rattle.lane_charts.specs.Page.{node_of}
use Rattle.lane_charts.proofs.pages.nodes_of.Given as goal

abbrev pub invariant-loop-firing : goal.invariant-loop-firing
invariant-loop-firing l = l.nodes.items ≡ map node_of (take l.firing-index l.firings)
