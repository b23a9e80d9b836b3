use Rattle.unit_rules.specs.Kinds.{HasNo, is_needless}
use Rattle.unit_rules.proofs.order.in_order.Given as goal

-- the statements that are kept so far
abbrev pub invariant-loop-statement : goal.invariant-loop-statement
invariant-loop-statement l = HasNo is_needless l.ordered.items
