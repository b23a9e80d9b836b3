use Rattle.function_rules.specs.Functions.{HasNoFunction}
use Rattle.function_rules.proofs.functions.as_subroutine.Given as goal

-- the statements that are written so far
abbrev pub invariant-loop-statement : goal.invariant-loop-statement
invariant-loop-statement l = HasNoFunction l.function.written.items
