use Rattle.std.proofs.Common.{◌≡◌, drop, false}
use Rattle.graph_pictures.specs.FlowDot.{over_edges}
use Rattle.graph_pictures.proofs.regions.Borders.over_edges.Given as goal

abbrev pub invariant-loop-edge : goal.invariant-loop-edge
invariant-loop-edge l = record {
  number : l.number ≡ l.edge-index;
  found : over_edges l.self.flow.now l.number (drop l.edge-index l.self.flow.now.edges.items) l.found.items ≡ over_edges l.self.flow.now 0 l.self.flow.now.edges.items l.initial.found.items;
  same : l.is_changed ≡ false → l.found.items ≡ l.initial.found.items;
}
