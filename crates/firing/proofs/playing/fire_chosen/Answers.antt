use Rattle.std.proofs.Common.{◌≡◌, ◌+◌, ◌%◌, ◌<◌, length, slice_index, None, sym, ap, ◌∙◌, rules, arith, subst}
use Rattle.std.proofs.Math.Nat.{mod-add-mod}
use Rattle.firing.specs.Control.{IsInStep}
use Rattle.firing.specs.Moves.{CanFire}
use Rattle.firing.specs.Play.{by_picks, moment}
use Rattle.firing.proofs.ChosenLemmas.{none_ready, pick_chosen, pick_fires}
use Rattle.firing.proofs.PlayLemmas.{appends_told, prefix_told, moment_told, run_breaks, run_on, run_rests, run_stops}
use Rattle.firing.proofs.playing.fire_chosen.Goals as goal

pub returns-then-count-eq0-clause-plays : goal.returns-then-count-eq0-clause-plays
returns-then-count-eq0-clause-plays g c = grind (arith, rules, run_rests, none_ready)

pub returns-then-made-limit-clause-plays : goal.returns-then-made-limit-clause-plays
returns-then-made-limit-clause-plays g c =
    let y = g.S.StepSystem in
    let kept = c.firing.invariant in
    let net = y.net c.args.sys.now in
    let w = by_picks (y.moves net) (y.course net) c.args.picks.now in
    let start = moment (y.marking c.args.sys.now) (y.place c.args.sys.now) in
    let m = y.marking c.firing.sys in
    let nothing : c.firing.trapped ≡ None = search rules in
    let pick = slice_index c.args.picks.now (c.firing.made % length c.args.picks.now) in
    let placed = rw kept.turn at c.place_in.ensures in
    let chose = pick_chosen y.moves kept.net m pick c.ready_count-count.ensures placed c.ready_at-k.ensures in
    let can = pick_fires y.moves kept.net m pick c.ready_count-count.ensures placed c.ready_at-k.ensures c.if-count-eq0.false (sym kept.trapped ∙ nothing) in
    run_stops w start kept.run c.if-made-limit.true chose can

pub step-requires-clause-can : goal.step-requires-clause-can
step-requires-clause-can g c =
    let y = g.S.StepSystem in
    let kept = c.firing.invariant in
    let net = y.net c.args.sys.now in
    let m = y.marking c.firing.sys in
    let nothing : c.firing.trapped ≡ None = search rules in
    let pick = slice_index c.args.picks.now (c.firing.made % length c.args.picks.now) in
    let placed = rw kept.turn at c.place_in.ensures in
    let can = pick_fires y.moves kept.net m pick c.ready_count-count.ensures placed c.ready_at-k.ensures c.if-count-eq0.false (sym kept.trapped ∙ nothing) in
    subst (λ n. CanFire (y.moves n) m c.ready_at-k.result) (sym kept.net) can

pub returns-in-Err-clause-plays : goal.returns-in-Err-clause-plays
returns-in-Err-clause-plays g c =
    let y = g.S.StepSystem in
    let kept = c.firing.invariant in
    let net = y.net c.args.sys.now in
    let w = by_picks (y.moves net) (y.course net) c.args.picks.now in
    let start = moment (y.marking c.args.sys.now) (y.place c.args.sys.now) in
    let m = y.marking c.firing.sys in
    let nothing : c.firing.trapped ≡ None = search rules in
    let pick = slice_index c.args.picks.now (c.firing.made % length c.args.picks.now) in
    let placed = rw kept.turn at c.place_in.ensures in
    let chose = pick_chosen y.moves kept.net m pick c.ready_count-count.ensures placed c.ready_at-k.ensures in
    let can = pick_fires y.moves kept.net m pick c.ready_count-count.ensures placed c.ready_at-k.ensures c.if-count-eq0.false (sym kept.trapped ∙ nothing) in
    let below : c.firing.made < c.args.limit = omega (arith, kept.run.bounded, c.if-made-limit.false) in
    let did = c.in-Err.ensures in
    let leads = moment_told y.moves y.course (y.place c.firing.sys) kept.net did.marking did.place in
    run_breaks w start kept.run below chose can leads (prefix_told y.moves kept.net m c.args.show c.ready_at-k.result (g.K.Sink.got c.firing.sink) (g.K.Sink.got c.step.new.sink) did.prefix)

pub firing-preserved : goal.firing-preserved
firing-preserved g c =
    let y = g.S.StepSystem in
    let kept = c.firing.invariant in
    let net = y.net c.args.sys.now in
    let w = by_picks (y.moves net) (y.course net) c.args.picks.now in
    let start = moment (y.marking c.args.sys.now) (y.place c.args.sys.now) in
    let m = y.marking c.firing.sys in
    let k = c.ready_at-k.result in
    let nothing : c.firing.trapped ≡ None = search rules in
    let pick = slice_index c.args.picks.now (c.firing.made % length c.args.picks.now) in
    let placed = rw kept.turn at c.place_in.ensures in
    let chose = pick_chosen y.moves kept.net m pick c.ready_count-count.ensures placed c.ready_at-k.ensures in
    let can = pick_fires y.moves kept.net m pick c.ready_count-count.ensures placed c.ready_at-k.ensures c.if-count-eq0.false (sym kept.trapped ∙ nothing) in
    let below : c.firing.made < c.args.limit = omega (arith, kept.run.bounded, c.if-made-limit.false) in
    let did = c.in-Ok.ensures in
    let leads = moment_told y.moves y.course (y.place c.firing.sys) kept.net did.marking did.place in
    record {
      net = did.net ∙ kept.net;
      sound = subst (λ n. y.sound n (y.marking c.step.new.sys)) kept.net did.sound;
      in_step = subst (λ n. IsInStep (y.moves n) (y.in_step n) (y.marking c.step.new.sys) (y.place c.step.new.sys)) kept.net did.in_step;
      run = run_on w start kept.run below chose can leads (appends_told y.moves kept.net m c.args.show k (g.K.Sink.got c.firing.sink) (g.K.Sink.got c.step.new.sink) did.all);
      keeps = did.keeps kept.keeps;
      trapped = c.trap_after-trapped.ensures ∙ ap (λ n. (y.moves n).trap (y.marking c.step.new.sys)) (did.net ∙ kept.net);
      later = omega (arith, kept.later, did.later);
      turn = c.next_turn-turn.ensures ∙ ap (λ i. (i + 1) % length c.args.picks.now) kept.turn ∙ mod-add-mod c.firing.made (length c.args.picks.now) 1;
    }
