use Rattle.std.proofs.Common.{◌≡◌, ◌∙◌, ℕ}
use Rattle.class_set.specs.ClassSet.{holds}
use Rattle.dep_routing.specs.Touch.{touches_in}
use Rattle.dep_routing.proofs.Listing.{IsListing-begin, IsListing-more, IsListing-end, told_members}
use Rattle.dep_routing.proofs.SetTables.{touches-at}
use Rattle.const_prop.proofs.setting.touched_row.Goals as goal

pub loop-line-init : goal.loop-line-init
loop-line-init g c =
    let told : (line : ℕ) → touches_in c.args.touch.now c.args.node line ≡ holds c.at-set.result.now line = λ line. touches-at c.args.touch.now c.args.node line c.at-set.result.now c.at-set.ensures.item in
    let e = c.least_above-line.ensures in
    rw c.new-row.ensures
    (IsListing-begin (touches_in c.args.touch.now c.args.node) c.args.lines c.least_above-line.result e.within (λ more. told c.least_above-line.result ∙ (e.member more).0) (λ k below. told k ∙ e.none k tt below))

pub loop-line-preserved : goal.loop-line-preserved
loop-line-preserved g c =
    let told : (line : ℕ) → touches_in c.args.touch.now c.args.node line ≡ holds c.at-set.result.now line = λ line. touches-at c.args.touch.now c.args.node line c.at-set.result.now c.at-set.ensures.item in
    let next = c.least_above-line-in-loop-line.result in
    let e = c.least_above-line-in-loop-line.ensures in
    rw c.in_ok-push.ensures.ok
    (IsListing-more (touches_in c.args.touch.now c.args.node) c.args.lines c.loop-line.line c.loop-line.row c.loop-line-test.true c.loop-line.invariant next e.within
    (λ more. (told next ∙ (e.member more).0, (e.member more).1)) (λ k above below. told k ∙ e.none k above below))

pub returns : goal.returns
returns g c =
    let test = touches_in c.args.touch.now c.args.node in
    told_members test c.args.lines c.loop-line.row (IsListing-end test c.args.lines c.loop-line.line c.loop-line.row c.loop-line-test.false c.loop-line.invariant)
