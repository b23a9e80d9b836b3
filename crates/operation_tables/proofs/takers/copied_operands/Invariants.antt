use Rattle.std.proofs.Common.{◌≡◌, take}
use Rattle.operation_tables.proofs.takers.copied_operands.Given as goal

abbrev pub invariant-loop-operand : goal.invariant-loop-operand
invariant-loop-operand l = l.copy.items ≡ take l.operand-index l.operands.items
