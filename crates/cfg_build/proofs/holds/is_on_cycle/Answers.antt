use Rattle.std.proofs.Common.{◌≡◌, ◌∙◌, ◌&&◌, ◌==◌, ◌<◌, Bool, true, false, length, sym, ap, arith, get_or}
use Rattle.std.proofs.lemmas.Bool.{eq-eqb, and_from}
use Rattle.std.proofs.lemmas.List.{get_or_default}
use Rattle.closed_walks.specs.Graph.{from, to}
use Rattle.closed_walks.specs.Reaching.{reaches}
use Rattle.cfg_build.proofs.EdgeLoops.{exists, test_found, test_missing, mark_told}
use Rattle.cfg_build.proofs.holds.is_on_cycle.Goals as goal

pub to-requires : goal.to-requires
to-requires c = exists c.args.g.now c.args.x c.edges_at-e-items.result.now c.edges_at-e-items.ensures c.loop-e.e-index c.loop-e-test.true

pub from-requires : goal.from-requires
from-requires c = exists c.args.g.now c.args.x c.edges_at-e-items.result.now c.edges_at-e-items.ensures c.loop-e.e-index c.loop-e-test.true

pub returns-then-index : goal.returns-then-index
returns-then-index c =
    let g = c.args.g.now in
    let items = c.edges_at-e-items.result.now in
    let e = get_or items c.loop-e.e-index 0 in
    let marks = c.in_ok-reached.reached.items in
    let within : c.from.result < length marks = omega (arith, c.from.ensures.exists, c.in_ok-reached.ensures.nodes) in
    let mark : get_or marks (from g e) false ≡ true =
    ap (λ n. get_or marks n false) (sym c.from.ensures.node) ∙ get_or_default marks c.from.result false c.index.result.now within ∙ sym c.index.ensures ∙ c.if-index.true in
    sym (test_found g c.args.x items c.edges_at-e-items.ensures (reaches g c.args.x) c.loop-e.e-index c.loop-e-test.true
    (and_from (to g e == c.args.x) (reaches g c.args.x (from g e)) (eq-eqb (to g e) c.args.x (sym c.to.ensures.node ∙ c.if-to-x.true))
    (sym (mark_told c.reaching_is_told.ensures g c.args.x marks c.requires.sound c.requires.node c.in_ok-reached.ensures.reached (from g e)) ∙ mark)))

pub returns : goal.returns
returns c =
    let g = c.args.g.now in
    let items = c.edges_at-e-items.result.now in
    sym (test_missing g c.args.x items c.edges_at-e-items.ensures (reaches g c.args.x)
    (λ k less. ap (λ (b : Bool). (to g (get_or items k 0) == c.args.x) && b) (sym (mark_told c.reaching_is_told.ensures g c.args.x c.in_ok-reached.reached.items c.requires.sound c.requires.node c.in_ok-reached.ensures.reached (from g (get_or items k 0))))
    ∙ c.loop-e.invariant.none k (omega (arith, less, c.loop-e-test.false))))
