use Rattle.std.proofs.Common.{◌≡◌, ◌≤◌, ◌*◌, drop}
use Rattle.layout_rules.specs.Storage.{elements}
use Rattle.layout_rules.specs.StorageFaults.{are_wrong_dims}
use Rattle.layout_rules.proofs.ElementCounts.{is_too_large}
use Rattle.storage_checks.proofs.dimensions.element_count.Given as goal

abbrev pub invariant-loop-dim : goal.invariant-loop-dim
invariant-loop-dim l = record {
  few : l.elements ≤ 262144;
  faults : are_wrong_dims l.dims ≡ is_too_large l.elements (drop l.dim-index l.dims);
  count : elements l.dims ≡ l.elements * elements (drop l.dim-index l.dims);
}
