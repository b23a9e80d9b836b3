use Rattle.std.proofs.Common.{◌≡◌, ◌<◌, ◌≤◌, ◌+◌, ℕ, Some, length, slice_get}
use Rattle.operation_lists.specs.declared.operations.Operation.{Operation}
use Rattle.operation_tables.proofs.tables.most_of.Given as goal

abbrev pub invariant-loop-i : goal.invariant-loop-i
invariant-loop-i l = record {
  each : (i : ℕ) (operation : Operation) → i < l.i → slice_get l.operations.items i ≡ Some operation → i + length operation.operands.items ≤ l.most;
  few : l.most ≤ 1000;
}
