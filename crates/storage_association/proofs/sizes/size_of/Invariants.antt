use Rattle.std.proofs.Common.{◌≡◌, ◌*◌, ◌≤◌, min, drop}
use Rattle.layout_rules.specs.Storage.{elements, size_of, too_many}
use Rattle.storage_association.proofs.sizes.size_of.Given as goal

abbrev pub invariant-loop-dim : goal.invariant-loop-dim
invariant-loop-dim l = record {
  cut : l.size ≤ too_many;
  size : min too_many (l.size * elements (drop l.dim-index l.dims)) ≡ size_of l.dims;
}
