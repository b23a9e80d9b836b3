use Rattle.std.proofs.Common.{◌≤◌}
use Rattle.operation_tables.proofs.TableLemmas.{AreMost}
use Rattle.operation_tables.proofs.tables.most_values.Given as goal

abbrev pub invariant-loop-operations : goal.invariant-loop-operations
invariant-loop-operations g l = record {
  most : AreMost l.plan.pieces.items l.operations-index l.most;
  few : l.most ≤ 1000;
}
