use Rattle.unit_rules.specs.Kinds.{is_parameter}
use Rattle.unit_rules.proofs.Kept.{has_no_more}
use Rattle.unit_rules.proofs.constants.with_constants.Goals as goal

pub loop-statement-preserved-in-loop-statement : goal.loop-statement-preserved-in-loop-statement
loop-statement-preserved-in-loop-statement c =
    has_no_more is_parameter c.loop-statement.kept.items c.in_ok-statement.statement c.push.new.self.items c.in-Some.statement.head c.is_parameter.result c.in_ok-push.ensures.items c.in_ok-statement.ensures c.is_parameter.ensures c.if-is_parameter.false c.loop-statement.invariant
