use Rattle.std.proofs.Common.{sym, subst}
use Rattle.alias_classes.specs.Classes.{ClassTable}
use Rattle.dep_routing.specs.Touches.{AreTouches, CanTrapAt}
use Rattle.dep_routing.proofs.OneTable.{one_touching}
use Rattle.dep_routing.proofs.SetTables.{touches-past}
use Rattle.dep_routing.proofs.one_table.one_touching.Goals as goal

pub returns-clause-ends : goal.returns-clause-ends
returns-clause-ends c = λ W sets node line past. touches-past sets node line past

pub returns-clause-one : goal.returns-clause-one
returns-clause-one c = λ p t other touches others is too are also ends beyond.
    one_touching p t (CanTrapAt p) touches others are (subst (λ (x : ClassTable). AreTouches p x others) (sym (c.one_numbering.ensures p t other is too)) also) ends beyond
