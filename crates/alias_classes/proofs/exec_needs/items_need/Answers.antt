use Rattle.alias_classes.specs.Needs.{ItemNeeds}
use Rattle.alias_classes.proofs.ListNeeds.{needs-next, needs-all}
use Rattle.alias_classes.proofs.exec_needs.items_need.Goals as goal

pub loop-item-preserved : goal.loop-item-preserved
loop-item-preserved g c = needs-next (ItemNeeds c.args.c.now) c.as_slice-item-items.result.now c.loop-item.item-index c.item-item.result c.loop-item.set c.item_need.result c.union-set.result c.loop-item-test.true c.item-item.is c.loop-item.invariant c.item_need.ensures c.union-set.ensures

pub returns : goal.returns
returns g c = needs-all (ItemNeeds c.args.c.now) c.as_slice-item-items.result.now c.args.items.now c.loop-item.item-index c.loop-item.set c.loop-item-test.false c.as_slice-item-items.ensures.items c.loop-item.invariant
