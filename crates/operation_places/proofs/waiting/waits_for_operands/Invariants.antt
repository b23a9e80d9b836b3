use Rattle.std.proofs.Common.{◌≡◌, ◌≤◌, take}
use Rattle.operation_places.specs.RowWaits.{is_there}
use Rattle.operation_tables.specs.Waits.{failing}
use Rattle.operation_places.proofs.waiting.waits_for_operands.Given as goal

abbrev pub invariant-loop-operand : goal.invariant-loop-operand
invariant-loop-operand l = record {
  count : l.count ≡ failing (is_there l.places.values.items l.first) (take l.operand-index l.operands);
  few : l.count ≤ l.operand-index;
}
