use Rattle.std.proofs.Common.{arith}
use Rattle.std.proofs.lemmas.Bool.{eq-eqb}
use Rattle.closed_walks.specs.Graph.{from}
use Rattle.std.proofs.Common.{get_or}
use Rattle.cfg_build.proofs.EdgeLoops.{exists, out_found, out_missing}
use Rattle.cfg_build.proofs.holds.first_out.Goals as goal

pub from-requires : goal.from-requires
from-requires c = exists c.args.g.now c.args.x c.edges_at-e-items.result.now c.edges_at-e-items.ensures c.loop-e.e-index c.loop-e-test.true

pub returns-then-from-x : goal.returns-then-from-x
returns-then-from-x c =
    grind (arith, out_found c.args.g.now c.args.x c.edges_at-e-items.result.now c.edges_at-e-items.ensures c.loop-e.e-index c.loop-e-test.true, eq-eqb (from c.args.g.now (get_or c.edges_at-e-items.result.now c.loop-e.e-index 0)) c.args.x)

pub returns : goal.returns
returns c = absurd (out_missing c.args.g.now c.args.x c.edges_at-e-items.result.now c.edges_at-e-items.ensures c.requires.some (λ k less. c.loop-e.invariant.none k (omega (arith, less, c.loop-e-test.false))))
