use Rattle.std.proofs.Common.{◌≡◌, map, take}
use Rattle.layout_rules.specs.Resolved.{resolved_item}
use Rattle.executable_lists.proofs.executables.Maker.items.Given as goal

abbrev pub invariant-loop-item : goal.invariant-loop-item
invariant-loop-item l = l.list ≡ map (resolved_item l.self.names.now l.self.checked) (take l.item-index l.item-items)
