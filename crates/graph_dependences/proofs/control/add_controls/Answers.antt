use Rattle.std.proofs.Common.{◌+◌, ap, refl}
use Rattle.graph_dependences.specs.Dependences.{DependsOnSome}
use Rattle.graph_dependences.proofs.Added.{Adds-more, Adds-none, item_at}
use Rattle.graph_dependences.proofs.control.add_controls.Goals as goal

pub loop-piece-init : goal.loop-piece-init
loop-piece-init c = record { number = refl; added = Adds-none c.args.all.now.items (DependsOnSome c.args.flow.now) }

pub add_controls_of-requires-clause-piece : goal.add_controls_of-requires-clause-piece
add_controls_of-requires-clause-piece c =
    item_at c.args.flow.now.pieces.items c.as_slice-piece-items.result.now c.loop-piece.number c.loop-piece.piece-index _ c.as_slice-piece-items.ensures.value c.loop-piece.invariant.number c.loop-piece-test.true

pub loop-piece-preserved : goal.loop-piece-preserved
loop-piece-preserved c = record {
  number = ap (λ n. n + 1) c.loop-piece.invariant.number;
  added = Adds-more c.args.all.now.items c.loop-piece.all.items c.add_controls_of.new.all.items (DependsOnSome c.args.flow.now) c.loop-piece.number c.loop-piece.invariant.added c.in_ok-add_controls_of.ensures;
}
