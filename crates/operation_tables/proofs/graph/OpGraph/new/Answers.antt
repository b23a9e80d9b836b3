use Rattle.operation_tables.proofs.PlannedCounts.{outside_operations, outside_pieces}
use Rattle.operation_tables.proofs.graph.OpGraph.new.Goals as goal

pub returns-clause-net : goal.returns-clause-net
returns-clause-net g c = c.in_ok-plan.ensures.net

pub returns-clause-outside_pieces : goal.returns-clause-outside_pieces
returns-clause-outside_pieces g c = outside_pieces c.in_ok-plan.plan

pub returns-clause-outside_operations : goal.returns-clause-outside_operations
returns-clause-outside_operations g c = outside_operations c.in_ok-plan.plan
