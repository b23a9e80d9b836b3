use Rattle.operation_tables.proofs.lookups.OperationBoard.new.Goals as goal

pub returns-clause-net : goal.returns-clause-net
returns-clause-net g c = c.in_ok-graph.ensures.net

pub returns-clause-is_net : goal.returns-clause-is_net
returns-clause-is_net g c = c.in_ok-graph.ensures.is_net

pub returns-clause-outside_pieces : goal.returns-clause-outside_pieces
returns-clause-outside_pieces g c = c.in_ok-graph.ensures.outside_pieces

pub returns-clause-outside_operations : goal.returns-clause-outside_operations
returns-clause-outside_operations g c = c.in_ok-graph.ensures.outside_operations
