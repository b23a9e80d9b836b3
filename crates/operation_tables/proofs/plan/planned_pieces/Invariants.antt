use Rattle.net_tables.specs.LookupView.{net_on}
use Rattle.operation_tables.proofs.PlanLemmas.{AreFirstPlanned}
use Rattle.operation_tables.proofs.plan.planned_pieces.Given as goal

abbrev pub invariant-loop-piece : goal.invariant-loop-piece
invariant-loop-piece g l = AreFirstPlanned (net_on l.board) l.c l.piece l.pieces.items
