use Rattle.operation_places.proofs.standing.node_before.Goals as goal

pub returns-then-is_needed-clause-before : goal.returns-then-is_needed-clause-before
returns-then-is_needed-clause-before g c = c.first_needing.ensures.before c.args.edge c.head-piece.ensures.piece

pub returns-else-is_needed-clause-before : goal.returns-else-is_needed-clause-before
returns-else-is_needed-clause-before g c = c.turn_of.ensures.before c.args.edge 0 c.head-piece.ensures.piece
