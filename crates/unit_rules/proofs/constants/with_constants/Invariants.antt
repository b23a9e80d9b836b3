use Rattle.unit_rules.specs.Kinds.{HasNo, is_parameter}
use Rattle.unit_rules.proofs.constants.with_constants.Given as goal

-- the statements that are kept so far
abbrev pub invariant-loop-statement : goal.invariant-loop-statement
invariant-loop-statement l = HasNo is_parameter l.kept.items
