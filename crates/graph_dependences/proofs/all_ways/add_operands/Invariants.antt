use Rattle.std.proofs.Common.{◌≡◌, ◌++◌, drop}
use Rattle.graph_dependences.specs.Waiting.{operand_ways}
use Rattle.graph_dependences.proofs.all_ways.add_operands.Given as goal

abbrev pub invariant-loop-operand : goal.invariant-loop-operand
invariant-loop-operand l = l.ways.items ++ operand_ways l.to (drop l.operand-index l.operands) ≡ l.fn.ways.items ++ operand_ways l.to l.operands
