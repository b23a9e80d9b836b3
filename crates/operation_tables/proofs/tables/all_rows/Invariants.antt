use Rattle.operation_tables.specs.PieceTables.{AreFirstRows}
use Rattle.operation_tables.specs.PlanView.{operations_in}
use Rattle.operation_tables.specs.ScratchLines.{IsClean}
use Rattle.operation_tables.proofs.tables.all_rows.Given as goal

abbrev pub invariant-loop-piece : goal.invariant-loop-piece
invariant-loop-piece g l = record {
  rows : AreFirstRows (operations_in l.plan) l.piece l.rows.items l.starts.items l.entries.items;
  clean : IsClean (operations_in l.plan).net.routing.lines l.scratch;
}
