use Rattle.std.proofs.Common.{◌≡◌, map, take}
use Rattle.trace_profiles.specs.Rounds.{greatest}
use Rattle.trace_profiles.specs.Tables.{given_in}
use Rattle.trace_profiles.proofs.rounds.newest_given.Given as goal

abbrev pub invariant-loop-operand : goal.invariant-loop-operand
invariant-loop-operand l = l.newest ≡ greatest (map (given_in l.numbers) (take l.operand-index l.operands))
