use Rattle.std.proofs.Common.{◌≡◌, ◌++◌, take, flat_map}
use Rattle.redundancy.specs.Collected.{all_subexpressions}
use Rattle.redundancy.specs.Computed.{in_item}
use Rattle.shared_forms.specs.Numbered.{numbers_in}
use Rattle.regenerate.proofs.sharing.append_items.Given as goal

abbrev pub invariant-loop-item : goal.invariant-loop-item
invariant-loop-item l = record {
  found : l.found.items ≡ l.initial.found.items ++ numbers_in l.a.candidates (all_subexpressions (flat_map in_item (take l.item-index l.item-items)));
}
