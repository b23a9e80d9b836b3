use Rattle.std.proofs.Common.{◌≡◌, map, drop}
use Rattle.sure_traps.specs.Causes.{first_some, item_cause}
use Rattle.sure_traps.proofs.executables.items_cause.Given as goal

abbrev pub invariant-loop-item : goal.invariant-loop-item
invariant-loop-item l = first_some (map (item_cause l.names) l.items) ≡ first_some (map (item_cause l.names) (drop l.item-index l.items))
