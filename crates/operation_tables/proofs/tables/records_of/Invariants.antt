use Rattle.operation_tables.proofs.NodeRecords.{AreRecords}
use Rattle.operation_tables.proofs.tables.records_of.Given as goal

abbrev pub invariant-loop-k : goal.invariant-loop-k
invariant-loop-k l = AreRecords l.names l.starts.items l.k l.records.items
