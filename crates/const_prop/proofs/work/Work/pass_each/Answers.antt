use Rattle.std.proofs.Common.{◌≡◌, ℕ, true, Some, Option, rules, sym, subst, arith}
use Rattle.class_set.specs.ClassSet.{holds}
use Rattle.dep_routing.specs.Routing.{next_at}
use Rattle.const_prop.specs.declared.known.Known.{Known}
use Rattle.const_prop.specs.Known.{AtMost, IsNotOne}
use Rattle.const_prop.specs.Work.{so_far}
use Rattle.const_prop.proofs.Going.{IsBefore, IsMember, next-member, before-more}
use Rattle.const_prop.proofs.Order.{at_most-trans}
use Rattle.const_prop.proofs.Rising.{rises-trans}
use Rattle.const_prop.proofs.work.Work.pass_each.Goals as goal

pub raise-requires : goal.raise-requires
raise-requires g c =
    let s = c.args.s.now in
    let line = c.in-Some.line in
    let inv = c.each.invariant in
    let member : holds c.args.lines.now line ≡ true = subst (IsMember (holds c.args.lines.now)) c.in-Some.is inv.member in
    let inside = c.requires.within line member in
    let led = c.requires.setting.lines.next line c.args.out inside c.requires.out in (
      search rules,
      (
        search rules,
        (
          c.requires.setting,
          (
            inv.rises.sized,
            (
              inside,
              (
                omega (arith, led, c.next_wire.ensures),
                (
                  inv.found,
                  (
                    λ b closed. subst (λ (k : Known). AtMost k (b.value line c.next_wire.result)) (sym c.get-known.ensures)
                        (subst (λ (n : ℕ). AtMost ((so_far c.each.self).value line c.args.edge) (b.value line n)) (sym c.next_wire.ensures)
                        (at_most-trans ((so_far c.each.self).value line c.args.edge) (b.value line c.args.edge) (b.value line (next_at s.lines.now line c.args.out)) ((inv.found.below b closed).value line c.args.edge inside c.requires.edge) (c.requires.due b line closed member))),
                    λ several. subst IsNotOne (sym c.get-known.ensures) (inv.found.words line c.args.edge inside c.requires.edge several),
                  ),
                ),
              ),
            ),
          ),
        ),
      ),
    )

pub each-preserved : goal.each-preserved
each-preserved g c =
    let f = c.args.s.now.flow.now in
    let r = c.args.s.now.lines.now in
    let line = c.in-Some.line in
    let inv = c.each.invariant in
    let old = c.args.self.now in
    let before = c.each.self in
    let new = c.raise.new.self in
    let rises = c.raise.ensures.rises in
    let member : holds c.args.lines.now line ≡ true = subst (IsMember (holds c.args.lines.now)) c.in-Some.is inv.member in
    let led = λ (k : ℕ) (is : holds c.args.lines.now k ≡ true). c.requires.setting.lines.next k c.args.out (c.requires.within k is) c.requires.out in
    let here : AtMost ((so_far old).value line c.args.edge) ((so_far new).value line (next_at r line c.args.out)) =
    at_most-trans ((so_far old).value line c.args.edge) ((so_far before).value line c.args.edge) ((so_far new).value line (next_at r line c.args.out)) (inv.rises.grows line c.args.edge (c.requires.within line member) c.requires.edge)
    (subst (λ (n : ℕ). AtMost ((so_far before).value line c.args.edge) ((so_far new).value line n)) c.next_wire.ensures (subst (λ (k : Known). AtMost k ((so_far new).value line c.next_wire.result)) c.get-known.ensures c.raise.ensures.reached)) in
    record {
      rises = rises-trans f r.lines old before new inv.rises rises;
      found = c.raise.ensures.found;
      member = next-member (holds c.args.lines.now) (Some line) c.next_after-next-in-Some.result c.next_after-next-in-Some.ensures.next;
      within = c.next_after-next-in-Some.ensures.within;
      passed = before-more (holds c.args.lines.now) line c.next_after-next-in-Some.result c.next_after-next-in-Some.ensures.next (λ k. AtMost ((so_far old).value k c.args.edge) ((so_far new).value k (next_at r k c.args.out)))
          (λ k is low. at_most-trans ((so_far old).value k c.args.edge) ((so_far before).value k (next_at r k c.args.out)) ((so_far new).value k (next_at r k c.args.out))
          (inv.passed k is (subst (λ (o : Option ℕ). IsBefore o k) (sym c.in-Some.is) low))
          (rises.grows k (next_at r k c.args.out) (c.requires.within k is) (led k is)))
          here;
    }
