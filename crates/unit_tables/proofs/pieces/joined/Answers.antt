use Rattle.unit_tables.proofs.Commas.{comma_next}
use Rattle.unit_tables.proofs.pieces.joined.Goals as goal

pub loop-piece-preserved : goal.loop-piece-preserved
loop-piece-preserved c =
    comma_next c.args.place c.unwrap_or-nodes.result.items c.loop-piece.yielded c.in-Some.piece c.loop-piece.nodes.items c.push.new.self.items c.append.new.self.items c.leaf.result c.loop-piece.invariant c.leaf.ensures c.in_ok-push.ensures.items c.in_ok-append.ensures.items
