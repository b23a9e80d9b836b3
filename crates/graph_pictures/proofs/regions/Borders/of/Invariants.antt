use Rattle.std.proofs.Common.{◌≡◌, map, take}
use Rattle.graph_pictures.specs.FlowDot.{entry_of, exit_of}
use Rattle.graph_pictures.proofs.regions.Borders.of.Given as goal

abbrev pub invariant-loop-region : goal.invariant-loop-region
invariant-loop-region l = record {
  entries : l.entries.items ≡ map entry_of (take l.region-index l.region-items);
  exits : l.exits.items ≡ map exit_of (take l.region-index l.region-items);
}
