use Rattle.std.proofs.Common.{◌≡◌, take, map}
use Rattle.shared_forms.specs.Numbered.{number_of}
use Rattle.shared_forms.specs.Shared.{replaced_item}
use Rattle.regenerate.proofs.replacing.replace_items.Given as goal

abbrev pub invariant-loop-item : goal.invariant-loop-item
invariant-loop-item l = record {
  all : l.all ≡ map (replaced_item l.t.q.now l.t.a.now (number_of l.t.a.now)) (take l.item-index l.item-items);
}
