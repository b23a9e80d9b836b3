use Rattle.std.proofs.Common.{◌≡◌, ◌<◌, ◌++◌, ◌∙◌, ℕ, Bool, map, sym, ap, arith, filter, ◌&&◌, not}
use Rattle.std.specs.List.{range_with_len}
use Rattle.class_set.specs.ClassSet.{holds}
use Rattle.firing.specs.declared.system.NodeName.TheVariants.{Switch}
use Rattle.net_board.specs.Nodes.{is_free}
use Rattle.net_tables.specs.PartsView.{net_in}
use Rattle.net_tables.proofs.TableLemmas.{IsNaming-begin, IsNaming-more, IsNaming-end}
use Rattle.net_tables.proofs.tables.push_switches.Goals as goal

pub loop-line-init : goal.loop-line-init
loop-line-init g c =
    let net = net_in c.args.plan.now in
    let test : ℕ → Bool = λ line. is_free net c.args.piece line && not (net.touches c.args.piece line) in
    let lines = c.lines-lines.result in
    let next = c.least_above-line.result in
    let e = c.least_above-line.ensures in
    let told : (k : ℕ) → k < lines → test k ≡ holds c.passing_lines-passing.result k = λ k low. sym (c.passing_lines-passing.ensures k (omega (arith, low, c.lines-lines.ensures))) in
    IsNaming-begin (Switch c.args.piece) test c.args.names.now lines next e.within (λ more. told next more ∙ (e.member more).0) (λ k below. told k (omega (arith, below, e.within)) ∙ e.none k tt below)

pub loop-line-preserved : goal.loop-line-preserved
loop-line-preserved g c =
    let net = net_in c.args.plan.now in
    let test : ℕ → Bool = λ line. is_free net c.args.piece line && not (net.touches c.args.piece line) in
    let lines = c.lines-lines.result in
    let next = c.least_above-line-in-loop-line.result in
    let e = c.least_above-line-in-loop-line.ensures in
    let told : (k : ℕ) → k < lines → test k ≡ holds c.passing_lines-passing.result k = λ k low. sym (c.passing_lines-passing.ensures k (omega (arith, low, c.lines-lines.ensures))) in
    rw c.in_ok-push.ensures (IsNaming-more (Switch c.args.piece) test c.args.names.now lines c.loop-line.line c.loop-line.names c.loop-line-test.true c.loop-line.invariant next e.within
    (λ more. (told next more ∙ (e.member more).0, (e.member more).1)) (λ k above below. told k (omega (arith, below, e.within)) ∙ e.none k above below))

pub returns : goal.returns
returns g c =
    let net = net_in c.args.plan.now in
    let test : ℕ → Bool = λ line. is_free net c.args.piece line && not (net.touches c.args.piece line) in
    IsNaming-end (Switch c.args.piece) test c.args.names.now c.lines-lines.result c.loop-line.line c.loop-line.names c.loop-line-test.false c.loop-line.invariant
    ∙ ap (λ n. c.args.names.now ++ map (Switch c.args.piece) (filter test (range_with_len 0 n))) c.lines-lines.ensures
