use Rattle.std.proofs.Common.{◌≡◌, ℕ, true, false, not, sym, ap, subst, ◌∙◌, ⊎_elim, arith}
use Rattle.std.proofs.lemmas.Bool.{and_parts, cases_Bool}
use Rattle.class_set.specs.ClassSet.{holds}
use Rattle.dep_routing.specs.Routing.{next_at, wire_at}
use Rattle.const_prop.specs.declared.known.Known.TheVariants.{Any}
use Rattle.const_prop.specs.Known.{AtMost}
use Rattle.const_prop.specs.Work.{so_far}
use Rattle.const_prop.proofs.Order.{at_most-trans, at_most-any}
use Rattle.const_prop.proofs.Rising.{rises-trans}
use Rattle.const_prop.proofs.work.Work.pass_along.Goals as goal
use Rattle.std.proofs.lemmas.Bool.{and_from}

pub returns-clause-rises : goal.returns-clause-rises
returns-clause-rises g c = rises-trans c.args.s.now.flow.now c.args.s.now.lines.now.lines c.args.self.now c.raise_to_any.new.self c.pass_each.new.self c.raise_to_any.ensures.rises c.pass_each.ensures.rises

pub returns-clause-passed : goal.returns-clause-passed
returns-clause-passed g c = λ k is.
    let r = c.args.s.now.lines.now in
    let old = c.args.self.now in
    let mid = c.raise_to_any.new.self in
    let new = c.pass_each.new.self in
    let edge = c.args.edge in
    let led = next_at r k c.args.out in
    let inside = c.requires.within k is in
    let edges = c.requires.setting.lines.edges in
    let out = c.requires.out in
    ⊎_elim
    (λ (once : holds c.intersection-at_once.result k ≡ true).
    let both = and_parts (holds c.intersection-any.result k) (holds c.wires.result.now k) (sym (c.intersection-at_once.ensures k) ∙ once) in
    let wire : wire_at r k c.args.out ≡ true = sym (c.wires.ensures.wires k inside) ∙ both.1 in
    let stays : led ≡ c.args.out = c.requires.setting.lines.stay k c.args.out inside (omega (arith, edges, out)) wire in
    subst (λ (n : ℕ). AtMost ((so_far old).value k edge) ((so_far new).value k n)) (sym stays)
    (at_most-trans ((so_far old).value k edge) Any ((so_far new).value k c.args.out) (at_most-any ((so_far old).value k edge))
    (at_most-trans Any ((so_far mid).value k c.args.out) ((so_far new).value k c.args.out) (c.raise_to_any.ensures.reached k once) (c.pass_each.ensures.rises.grows k c.args.out inside out))))
    (λ (later : holds c.intersection-at_once.result k ≡ false).
    at_most-trans ((so_far old).value k edge) ((so_far mid).value k edge) ((so_far new).value k led)
    (c.raise_to_any.ensures.rises.grows k edge inside c.requires.edge)
    (c.pass_each.ensures.passed k (c.difference.ensures k ∙ and_from (holds c.args.lines.now k) (not (holds c.intersection-at_once.result k)) is (ap not later))))
    (cases_Bool (holds c.intersection-at_once.result k))
