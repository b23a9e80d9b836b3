use Rattle.alias_classes.specs.Needs.{ItemNeeds}
use Rattle.alias_classes.proofs.ListNeeds.{NeedsSoFar}
use Rattle.alias_classes.proofs.exec_needs.items_need.Given as goal

abbrev pub invariant-loop-item : goal.invariant-loop-item
invariant-loop-item g l = NeedsSoFar (ItemNeeds l.c) l.item-items l.item-index l.set
