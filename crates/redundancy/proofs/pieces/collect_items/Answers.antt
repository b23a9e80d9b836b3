use Rattle.std.proofs.Common.{sym, subst, List, All}
use Rattle.std.specs.Prelude.{flat_map}
use Rattle.f77_tree.specs.declared.programs.Item.{Item}
use Rattle.f77_tree.specs.Value.{IsExpression}
use Rattle.redundancy.specs.Computed.{in_item}
use Rattle.redundancy.proofs.Growing.{grown-none, grown-item, all_items-at}
use Rattle.redundancy.proofs.pieces.collect_items.Goals as goal

pub loop-item-init : goal.loop-item-init
loop-item-init c = record {
  expressions = subst (λ (z : List Item). All (IsExpression c.args.names.now) (flat_map in_item z)) (sym c.as_slice-item-items.ensures.items) c.requires;
  grown = grown-none c.args.names.now c.args.found.now.items;
}

pub collect_item-requires : goal.collect_item-requires
collect_item-requires c = all_items-at c.args.names.now c.as_slice-item-items.result.now c.loop-item.item-index c.item-item.result c.loop-item-test.true c.item-item.is c.loop-item.invariant.expressions

pub loop-item-preserved : goal.loop-item-preserved
loop-item-preserved c = record {
  expressions = c.loop-item.invariant.expressions;
  grown = grown-item c.args.names.now c.as_slice-item-items.result.now c.loop-item.item-index c.item-item.result c.args.found.now.items c.loop-item.found.items c.collect_item.new.found.items c.loop-item-test.true c.item-item.is c.loop-item.invariant.grown c.in_ok-collect_item.ensures;
}
