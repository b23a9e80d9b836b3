use Rattle.std.proofs.Common.{sym, subst}
use Rattle.alias_classes.specs.Classes.{ClassTable}
use Rattle.dep_routing.proofs.OneTable.{one_touching}
use Rattle.range_lines.specs.RangeRisks.{MayTrapInRuns}
use Rattle.range_lines.specs.RangeTouches.{AreRangeTouches}
use Rattle.range_lines.proofs.laws.one_range_touching.Goals as goal

pub returns : goal.returns
returns c = λ p t other touches others is too are also ends beyond.
    one_touching p t (MayTrapInRuns p t) touches others are (subst (λ (x : ClassTable). AreRangeTouches p x others) (sym (c.one_numbering.ensures p t other is too)) also) ends beyond
