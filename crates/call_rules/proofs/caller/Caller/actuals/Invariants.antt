use Rattle.std.proofs.Common.{◌≡◌, length}
use Rattle.call_rules.proofs.caller.Caller.actuals.Given as goal

-- a name for each argument so far
abbrev pub invariant-loop-argument : goal.invariant-loop-argument
invariant-loop-argument l = length l.actuals.items ≡ length l.yielded
