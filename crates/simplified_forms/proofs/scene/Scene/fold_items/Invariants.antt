use Rattle.std.proofs.Common.{◌≡◌, take, map, All}
use Rattle.f77_tree.specs.CanRun.{CanPrint}
use Rattle.const_prop.specs.Closed.{words_on}
use Rattle.const_prop.specs.Table.{knowns_of}
use Rattle.simplified_forms.specs.Folding.{folded_item}
use Rattle.simplified_forms.proofs.scene.Scene.fold_items.Given as goal

abbrev pub invariant-loop-item : goal.invariant-loop-item
invariant-loop-item g l = record {
  items : All (CanPrint l.self.p.now.names) l.item-items;
  folded : l.all ≡ map (folded_item l.self.p.now.names l.self.checked (words_on l.self.c.now (knowns_of l.self.t.now) l.self.edge)) (take l.item-index l.item-items);
}
