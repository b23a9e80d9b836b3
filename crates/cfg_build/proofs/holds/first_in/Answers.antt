use Rattle.std.proofs.Common.{arith}
use Rattle.std.proofs.lemmas.Bool.{eq-eqb}
use Rattle.closed_walks.specs.Graph.{to}
use Rattle.std.proofs.Common.{get_or}
use Rattle.cfg_build.proofs.EdgeLoops.{exists, in_found, in_missing}
use Rattle.cfg_build.proofs.holds.first_in.Goals as goal

pub to-requires : goal.to-requires
to-requires c = exists c.args.g.now c.args.x c.edges_at-e-items.result.now c.edges_at-e-items.ensures c.loop-e.e-index c.loop-e-test.true

pub returns-then-to-x : goal.returns-then-to-x
returns-then-to-x c =
    grind (arith, in_found c.args.g.now c.args.x c.edges_at-e-items.result.now c.edges_at-e-items.ensures c.loop-e.e-index c.loop-e-test.true, eq-eqb (to c.args.g.now (get_or c.edges_at-e-items.result.now c.loop-e.e-index 0)) c.args.x)

pub returns : goal.returns
returns c = absurd (in_missing c.args.g.now c.args.x c.edges_at-e-items.result.now c.edges_at-e-items.ensures c.requires.some (λ k less. c.loop-e.invariant.none k (omega (arith, less, c.loop-e-test.false))))
