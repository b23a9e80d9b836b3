use Rattle.std.proofs.Common.{◌≡◌, length, take}
use Rattle.std.specs.Prelude.{flat_map}
use Rattle.layout_rules.specs.Storage.{group_equations}
use Rattle.storage_association.specs.Storages.{AreSome}
use Rattle.storage_association.specs.CommonStorages.{Links}
use Rattle.storage_association.proofs.equations.equate_groups.Given as goal

abbrev pub invariant-loop-group : goal.invariant-loop-group
invariant-loop-group l = record {
  some : AreSome l.storages;
  same : length l.storages.parts.items ≡ length l.names;
  came : Links (length l.names) l.fn.storages l.storages (flat_map (group_equations l.names) (take l.group-index l.groups));
}
