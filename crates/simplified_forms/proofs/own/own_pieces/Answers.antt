use Rattle.std.proofs.Common.{length, sym, ◌∙◌}
use Rattle.simplified_forms.specs.Items.{is_piece_of}
use Rattle.simplified_forms.proofs.FirstPlaces.{from-set, from-same}
use Rattle.simplified_forms.proofs.PieceLemmas.{piece-own, piece-other, piece-none}
use Rattle.simplified_forms.proofs.own.own_pieces.Goals as goal

pub loop-node-preserved-then-is_own : goal.loop-node-preserved-then-is_own
loop-node-preserved-then-is_own c =
    let p = c.args.p.now in
    let piece = c.piece-piece.result in
    from-set (is_piece_of p) c.args.f.now.pieces (length p.execs) c.loop-node.node piece.exec piece c.loop-node.own.items c.loop-node-test.true c.loop-node.invariant c.piece-piece.ensures
    (piece-own p piece (sym c.is_own.ensures ∙ c.if-is_own.true))
    (piece-other p piece)

pub loop-node-preserved : goal.loop-node-preserved
loop-node-preserved c =
    let p = c.args.p.now in
    let piece = c.piece-piece.result in
    from-same (is_piece_of p) c.args.f.now.pieces (length p.execs) c.loop-node.node piece c.loop-node.own.items c.loop-node-test.true c.loop-node.invariant c.piece-piece.ensures
    (piece-none p piece (sym c.is_own.ensures ∙ c.if-is_own.false))
