use Rattle.std.proofs.Common.{◌≡◌, take, length}
use Rattle.trace_profiles.specs.Tables.{IsMarked, is_giver}
use Rattle.trace_profiles.proofs.rounds.put_given.Given as goal

abbrev pub invariant-loop-operand : goal.invariant-loop-operand
invariant-loop-operand l = record {
  marked : IsMarked l.initial.numbers.items l.numbers.items (is_giver (take l.operand-index l.operands)) l.n;
  count : length l.numbers.items ≡ length l.initial.numbers.items;
}
