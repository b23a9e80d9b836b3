use Rattle.unit_rules.specs.Kinds.{is_needless}
use Rattle.unit_rules.proofs.Kept.{has_no_more, has_no_permuted}
use Rattle.unit_rules.proofs.order.in_order.Goals as goal

pub loop-statement-preserved : goal.loop-statement-preserved
loop-statement-preserved c =
    has_no_more is_needless c.loop-statement.ordered.items c.in_ok-statement.statement c.push.new.self.items c.in-Some.statement.head c.is_needless.result c.in_ok-push.ensures.items c.in_ok-statement.ensures c.is_needless.ensures c.if-is_needless.false c.loop-statement.invariant

pub returns : goal.returns
returns c =
    has_no_permuted is_needless c.loop-statement.ordered.items c.sort_by_key.new.self.items c.in_ok-sort_by_key.ensures.permutation c.loop-statement.invariant
