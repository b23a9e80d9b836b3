use Rattle.std.proofs.Common.{◌≡◌, length, map, take}
use Rattle.layout_rules.specs.Storage.{equated}
use Rattle.storage_association.specs.Storages.{AreSome}
use Rattle.storage_association.specs.CommonStorages.{Links}
use Rattle.storage_association.proofs.equations.equate_group.Given as goal

abbrev pub invariant-loop-other : goal.invariant-loop-other
invariant-loop-other l = record {
  some : AreSome l.storages;
  same : length l.storages.parts.items ≡ length l.names;
  came : Links (length l.names) l.fn.storages l.storages (map (equated l.names l.first) (take l.other-index l.rest));
}
