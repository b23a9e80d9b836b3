use Rattle.std.proofs.Common.{◌≡◌, ◌∙◌, ◌+◌, ◌&&◌, not, true, false, sym, ap, subst, get_or, List, ℕ, Bool}
use Rattle.cfg_build.specs.Holds.{is_held, is_on_cycle}
use Rattle.cfg_build.specs.Tables.{AreHeldBelow, is_entered_from_above}
use Rattle.cfg_build.proofs.BuildingHolds.{test_is_held, none_more, one_more, then_on_ok}
use Rattle.cfg_build.proofs.holds.hold_where_needed.Goals as goal

pub returns-then-not-branch-clause-held : goal.returns-then-not-branch-clause-held
returns-then-not-branch-clause-held c = λ finish below before.
    let g = c.args.g.now in
    let x = c.args.x in
    let test : List Bool → Bool = λ (marks : List Bool). not (get_or marks x false) && (is_entered_from_above g x && is_on_cycle g x) in
    let is : is_held g finish x ≡ false =
    sym (test_is_held c.reaching_is_told.ensures g c.requires.sound finish below x c.args.held.now.items c.args.leaving.now.items c.requires.node before)
    ∙ sym (ap test c.deref.ensures.value) ∙ sym c.in_ok-stays.ensures ∙ c.if-not-branch.true in
    none_more c.reaching_is_told.ensures g c.requires.sound finish below x c.args.held.now.items c.args.leaving.now.items is before

pub returns-clause-held : goal.returns-clause-held
returns-clause-held c =
    let g = c.args.g.now in
    let x = c.args.x in
    let test : List Bool → Bool = λ (marks : List Bool). not (get_or marks x false) && (is_entered_from_above g x && is_on_cycle g x) in
    then_on_ok c.mark_back.result
    (λ marked finish below before.
    let is : is_held g finish x ≡ true =
    sym (test_is_held c.reaching_is_told.ensures g c.requires.sound finish below x c.args.held.now.items c.args.leaving.now.items c.requires.node before)
    ∙ sym (ap test c.deref.ensures.value) ∙ sym c.in_ok-stays.ensures ∙ c.if-not-branch.false in
    subst (λ (hs : List ℕ). AreHeldBelow g finish (x + 1) hs c.mark_back.new.marks.items) (sym c.in_ok-push.ensures.items)
    (one_more c.reaching_is_told.ensures g c.requires.sound finish below x c.args.held.now.items c.args.leaving.now.items c.mark_back.new.marks.items is before marked))
    c.mark_back.ensures.marked
