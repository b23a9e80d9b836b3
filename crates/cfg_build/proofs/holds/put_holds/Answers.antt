use Rattle.std.proofs.Common.{arith}
use Rattle.std.proofs.lemmas.List.Sums.{fold_more}
use Rattle.cfg_build.proofs.PutHolds.{hold_for, piece_is, prefix_stays, length_pieces, length_edges}
use Rattle.cfg_build.proofs.holds.put_holds.Goals as goal
use Rattle.std.proofs.lemmas.Grind.{elements}

pub held_edge-edge-requires-clause-some : goal.held_edge-edge-requires-clause-some
held_edge-edge-requires-clause-some c =
    grind (arith, c.requires.nodes c.loop-x.x-index 0 c.loop-x-test.true, piece_is, c.requires.held c.loop-x.x-index 0 c.loop-x-test.true)

pub put_hold-requires-clause-edge : goal.put_hold-requires-clause-edge
put_hold-requires-clause-edge c =
    grind (arith, c.requires.nodes c.loop-x.x-index 0 c.loop-x-test.true, piece_is, c.requires.held c.loop-x.x-index 0 c.loop-x-test.true)

pub loop-x-preserved : goal.loop-x-preserved
loop-x-preserved c = grind (arith, elements, piece_is, fold_more, length_pieces, length_edges, prefix_stays, hold_for)
