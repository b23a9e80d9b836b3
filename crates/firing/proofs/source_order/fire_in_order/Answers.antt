use Rattle.std.proofs.Common.{◌≡◌, ◌+◌, ◌≤◌, None, Some, sym, ap, ◌∙◌, rules, arith}
use Rattle.firing.specs.declared.playing.Show.TheVariants.{Nodes}
use Rattle.firing.specs.Control.{due_at, due_node}
use Rattle.firing.specs.Play.{by_order, moment, node_of}
use Rattle.firing.specs.SourceOrder.{FiresTo}
use Rattle.firing.proofs.ControlLemmas.{due_fires, due_here, due_told}
use Rattle.firing.proofs.DueLemmas.{break_many, control_after, fires_told, in_step_after, line_after_told, run_many, sound_after, told_appends, told_prefix, trap_told_after}
use Rattle.firing.proofs.PlayLemmas.{run_stops}
use Rattle.firing.proofs.source_order.fire_in_order.Goals as goal

pub returns-then-made-limit-clause-plays : goal.returns-then-made-limit-clause-plays
returns-then-made-limit-clause-plays g c =
    let y = g.S.StepSystem in
    let kept = c.firing.invariant in
    let net = y.net c.args.sys.now in
    let start = moment (y.marking c.args.sys.now) (y.place c.args.sys.now) in
    let m = y.marking c.firing.sys in
    let control = y.place c.firing.sys in
    let k = c.in-Some-due.k in
    let is_due : due_at (y.course net) m control ≡ Some k = due_told y.course m control kept.net (search rules) in
    let at : k ≡ node_of (due_node (y.moves net) (y.course net) m control) = sym (ap node_of (due_here (y.course net) (y.moves net) m control k is_due)) in
    let nothing : c.firing.trapped ≡ None = search rules in
    let can = due_fires (g.met.S.SourceOrder.ordered net) m control k kept.sound kept.in_step (sym kept.trapped ∙ nothing) is_due in
    run_stops (by_order (y.moves net) (y.course net)) start kept.run c.if-made-limit.true at can

pub trap_after-trapped-requires : goal.trap_after-trapped-requires
trap_after-trapped-requires g c other =
    let y = g.S.StepSystem in
    let kept = c.firing.invariant in
    let net = y.net c.args.sys.now in
    let m = y.marking c.firing.sys in
    let control = y.place c.firing.sys in
    let did = c.fire_due-count.ensures in
    let end = moment (y.marking c.fire_due-count.new.self) (y.place c.fire_due-count.new.self) in
    let to : FiresTo (by_order (y.moves net) (y.course net)) (moment m control) c.at_once.result c.fire_due-count.result.0 c.fire_due-count.result.1 end = fires_told y.moves y.course kept.net did.fires in
    ap (λ n. (y.moves n).trap (y.marking c.fire_due-count.new.self)) (did.net ∙ kept.net) ∙ trap_told_after (y.moves net) (y.course net) to other

pub returns-in-Err-clause-plays : goal.returns-in-Err-clause-plays
returns-in-Err-clause-plays g c =
    let y = g.S.StepSystem in
    let kept = c.firing.invariant in
    let net = y.net c.args.sys.now in
    let start = moment (y.marking c.args.sys.now) (y.place c.args.sys.now) in
    let m = y.marking c.firing.sys in
    let control = y.place c.firing.sys in
    let k = c.in-Some-due.k in
    let is_due : due_at (y.course net) m control ≡ Some k = due_told y.course m control kept.net (search rules) in
    let at : k ≡ node_of (due_node (y.moves net) (y.course net) m control) = sym (ap node_of (due_here (y.course net) (y.moves net) m control k is_due)) in
    let did = c.fire_due-count.ensures in
    let end = moment (y.marking c.fire_due-count.new.self) (y.place c.fire_due-count.new.self) in
    let to : FiresTo (by_order (y.moves net) (y.course net)) (moment m control) c.at_once.result c.fire_due-count.result.0 c.fire_due-count.result.1 end = fires_told y.moves y.course kept.net did.fires in
    let below : c.firing.made + c.at_once.result ≤ c.args.limit = let all = kept.run.bounded in omega (arith, c.at_once.ensures.bounded, c.if-made-limit.false, all) in
    let one : c.args.show ≡ Nodes → c.fire_due-count.result.0 ≡ 1 = λ e. let single = c.at_once.ensures.one e in let some = to.some in let few = to.bounded in omega (arith, single, some, few) in
    let line = y.last c.firing.sys in
    let last = line_after_told y.moves y.course kept.net (moment m control) c.fire_due-count.result.0 line did.last in
    let wrote = told_prefix y.moves (did.net ∙ kept.net) c.args.show k c.fire_due-count.result.1 last (g.K.Sink.got c.firing.sink) (g.K.Sink.got c.show_fired.new.sink) c.in-Err.ensures.prefix in
    break_many (y.moves net) (y.course net) start kept.run to below one at line wrote

pub returns-in-Err-clause-sound : goal.returns-in-Err-clause-sound
returns-in-Err-clause-sound g c =
    let y = g.S.StepSystem in
    let kept = c.firing.invariant in
    let net = y.net c.args.sys.now in
    let m = y.marking c.firing.sys in
    let control = y.place c.firing.sys in
    let did = c.fire_due-count.ensures in
    let end = moment (y.marking c.fire_due-count.new.self) (y.place c.fire_due-count.new.self) in
    let to : FiresTo (by_order (y.moves net) (y.course net)) (moment m control) c.at_once.result c.fire_due-count.result.0 c.fire_due-count.result.1 end = fires_told y.moves y.course kept.net did.fires in
    sound_after (y.moves net) (y.course net) to (g.met.S.StepSystem.lawful net) (g.met.S.StepSystem.steady net) (g.met.S.SourceOrder.ordered net) kept.sound kept.in_step kept.control

pub returns-in-Err-clause-in_step : goal.returns-in-Err-clause-in_step
returns-in-Err-clause-in_step g c =
    let y = g.S.StepSystem in
    let kept = c.firing.invariant in
    let net = y.net c.args.sys.now in
    let m = y.marking c.firing.sys in
    let control = y.place c.firing.sys in
    let did = c.fire_due-count.ensures in
    let end = moment (y.marking c.fire_due-count.new.self) (y.place c.fire_due-count.new.self) in
    let to : FiresTo (by_order (y.moves net) (y.course net)) (moment m control) c.at_once.result c.fire_due-count.result.0 c.fire_due-count.result.1 end = fires_told y.moves y.course kept.net did.fires in
    in_step_after (y.moves net) (y.course net) to (g.met.S.StepSystem.lawful net) (g.met.S.StepSystem.steady net) (g.met.S.SourceOrder.ordered net) kept.sound kept.in_step kept.control

pub returns-in-Err-clause-control : goal.returns-in-Err-clause-control
returns-in-Err-clause-control g c =
    let y = g.S.StepSystem in
    let kept = c.firing.invariant in
    let net = y.net c.args.sys.now in
    let m = y.marking c.firing.sys in
    let control = y.place c.firing.sys in
    let did = c.fire_due-count.ensures in
    let end = moment (y.marking c.fire_due-count.new.self) (y.place c.fire_due-count.new.self) in
    let to : FiresTo (by_order (y.moves net) (y.course net)) (moment m control) c.at_once.result c.fire_due-count.result.0 c.fire_due-count.result.1 end = fires_told y.moves y.course kept.net did.fires in
    control_after (y.moves net) (y.course net) to (g.met.S.StepSystem.lawful net) (g.met.S.StepSystem.steady net) (g.met.S.SourceOrder.ordered net) kept.sound kept.in_step kept.control

pub firing-preserved : goal.firing-preserved
firing-preserved g c =
    let y = g.S.StepSystem in
    let kept = c.firing.invariant in
    let net = y.net c.args.sys.now in
    let start = moment (y.marking c.args.sys.now) (y.place c.args.sys.now) in
    let m = y.marking c.firing.sys in
    let control = y.place c.firing.sys in
    let k = c.in-Some-due.k in
    let is_due : due_at (y.course net) m control ≡ Some k = due_told y.course m control kept.net (search rules) in
    let at : k ≡ node_of (due_node (y.moves net) (y.course net) m control) = sym (ap node_of (due_here (y.course net) (y.moves net) m control k is_due)) in
    let did = c.fire_due-count.ensures in
    let end = moment (y.marking c.fire_due-count.new.self) (y.place c.fire_due-count.new.self) in
    let to : FiresTo (by_order (y.moves net) (y.course net)) (moment m control) c.at_once.result c.fire_due-count.result.0 c.fire_due-count.result.1 end = fires_told y.moves y.course kept.net did.fires in
    let below : c.firing.made + c.at_once.result ≤ c.args.limit = let all = kept.run.bounded in omega (arith, c.at_once.ensures.bounded, c.if-made-limit.false, all) in
    let one : c.args.show ≡ Nodes → c.fire_due-count.result.0 ≡ 1 = λ e. let single = c.at_once.ensures.one e in let some = to.some in let few = to.bounded in omega (arith, single, some, few) in
    let line = y.last c.firing.sys in
    let last = line_after_told y.moves y.course kept.net (moment m control) c.fire_due-count.result.0 line did.last in
    let wrote = told_appends y.moves (did.net ∙ kept.net) c.args.show k c.fire_due-count.result.1 last (g.K.Sink.got c.firing.sink) (g.K.Sink.got c.show_fired.new.sink) c.in-Ok.ensures.all in
    let lawful = g.met.S.StepSystem.lawful net in
    let steady = g.met.S.StepSystem.steady net in
    let ordered = g.met.S.SourceOrder.ordered net in
    record {
      net = did.net ∙ kept.net;
      sound = sound_after (y.moves net) (y.course net) to lawful steady ordered kept.sound kept.in_step kept.control;
      in_step = in_step_after (y.moves net) (y.course net) to lawful steady ordered kept.sound kept.in_step kept.control;
      control = control_after (y.moves net) (y.course net) to lawful steady ordered kept.sound kept.in_step kept.control;
      run = run_many (y.moves net) (y.course net) start kept.run to below one at line wrote;
      trapped = c.trap_after-trapped.ensures ∙ ap (λ n. (y.moves n).trap (y.marking c.fire_due-count.new.self)) (did.net ∙ kept.net);
      later = let more = c.in-Ok.ensures.later in let before = kept.later in omega (arith, more, before);
    }
