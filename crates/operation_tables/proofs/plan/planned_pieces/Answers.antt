use Rattle.net_tables.specs.LookupView.{net_on}
use Rattle.operation_tables.proofs.PlanLemmas.{next_planned}
use Rattle.operation_tables.proofs.plan.planned_pieces.Goals as goal

pub loop-piece-preserved : goal.loop-piece-preserved
loop-piece-preserved g c = next_planned (net_on c.args.board.now) c.args.c.now c.loop-piece.piece c.loop-piece.pieces.items c.push.new.self.items c.in_ok-operations_with_needs.field-0 c.loop-piece.invariant c.in_ok-operations_with_needs.ensures c.in_ok-push.ensures.items
