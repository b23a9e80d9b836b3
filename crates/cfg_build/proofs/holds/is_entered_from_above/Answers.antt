use Rattle.std.proofs.Common.{◌≡◌, ◌∙◌, ◌==◌, nat_le, true, sym, subst, arith, get_or}
use Rattle.std.proofs.lemmas.Bool.{eq-eqb, le-leb, and_from}
use Rattle.closed_walks.specs.Graph.{from, to}
use Rattle.cfg_build.proofs.EdgeLoops.{exists, test_found, test_missing}
use Rattle.cfg_build.proofs.holds.is_entered_from_above.Goals as goal

pub to-requires : goal.to-requires
to-requires c = exists c.args.g.now c.args.x c.edges_at-e-items.result.now c.edges_at-e-items.ensures c.loop-e.e-index c.loop-e-test.true

pub from-requires : goal.from-requires
from-requires c = exists c.args.g.now c.args.x c.edges_at-e-items.result.now c.edges_at-e-items.ensures c.loop-e.e-index c.loop-e-test.true

pub returns-then-x-from : goal.returns-then-x-from
returns-then-x-from c =
    let g = c.args.g.now in
    let items = c.edges_at-e-items.result.now in
    let e = get_or items c.loop-e.e-index 0 in
    sym (test_found g c.args.x items c.edges_at-e-items.ensures (nat_le c.args.x) c.loop-e.e-index c.loop-e-test.true
    (and_from (to g e == c.args.x) (nat_le c.args.x (from g e)) (eq-eqb (to g e) c.args.x (sym c.to.ensures.node ∙ c.if-to-x.true))
    (subst (λ n. nat_le c.args.x n ≡ true) c.from.ensures.node (le-leb c.args.x c.from.result c.if-x-from.true))))

pub returns : goal.returns
returns c = sym (test_missing c.args.g.now c.args.x c.edges_at-e-items.result.now c.edges_at-e-items.ensures (nat_le c.args.x) (λ k less. c.loop-e.invariant.none k (omega (arith, less, c.loop-e-test.false))))
