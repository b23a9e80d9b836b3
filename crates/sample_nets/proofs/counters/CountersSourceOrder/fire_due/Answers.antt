use Rattle.std.proofs.Common.{◌≡◌, Some, sym, subst, ◌∙◌, rules, arith, take}
use Rattle.firing.specs.declared.system.Fired.TheVariants.{Moved}
use Rattle.firing.specs.Control.{due_at}
use Rattle.firing.specs.Play.{by_order, moment}
use Rattle.firing.specs.SourceOrder.{FiresTo}
use Rattle.firing.proofs.ControlLemmas.{due_fires}
use Rattle.firing.proofs.DueLemmas.{fires_more, line_more, one_due, one_line}
use Rattle.sample_nets.specs.Counting.{counter_moves}
use Rattle.sample_nets.specs.CounterOrder.{counter_order}
use Rattle.sample_nets.specs.Turns.{counter_course}
use Rattle.sample_nets.proofs.TurnLemmas.{can_next, none_next, small_next, step_next}
use Rattle.sample_nets.proofs.counters.CountersSourceOrder.fire_due.Goals as goal

pub more-init : goal.more-init
more-init c =
    let m = c.args.self.now.counts in
    let turn = c.args.self.now.turn in
    let k = c.in-Some.first in
    let is : due_at counter_course m turn ≡ Some k = sym c.due.ensures ∙ c.in-Some.is in
    let can = due_fires counter_order m turn k c.requires.sound c.requires.in_step c.requires.going is in
    let did = c.fire-fired.ensures in
    record {
      to = one_due counter_moves counter_course m turn k is c.args.most c.fire-fired.result c.requires.some can did.fired did.marking did.place;
      line = one_line counter_moves counter_course m turn k is (take c.args.self.now.len c.args.self.now.text) did.last;
    }

pub due-requires-in-more-clause-sound : goal.due-requires-in-more-clause-sound
due-requires-in-more-clause-sound c =
    let quiet : c.more.fired ≡ Moved = search rules in
    let to : FiresTo (by_order counter_moves counter_course) (moment c.args.self.now.counts c.args.self.now.turn) c.args.most c.more.made Moved (moment c.more.self.counts c.more.self.turn) = subst (λ fired. FiresTo (by_order counter_moves counter_course) (moment c.args.self.now.counts c.args.self.now.turn) c.args.most c.more.made fired (moment c.more.self.counts c.more.self.turn)) quiet c.more.invariant.to in
    small_next to c.requires.sound c.requires.in_step c.requires.due

pub due-requires-in-more-clause-in_step : goal.due-requires-in-more-clause-in_step
due-requires-in-more-clause-in_step c =
    let quiet : c.more.fired ≡ Moved = search rules in
    let to : FiresTo (by_order counter_moves counter_course) (moment c.args.self.now.counts c.args.self.now.turn) c.args.most c.more.made Moved (moment c.more.self.counts c.more.self.turn) = subst (λ fired. FiresTo (by_order counter_moves counter_course) (moment c.args.self.now.counts c.args.self.now.turn) c.args.most c.more.made fired (moment c.more.self.counts c.more.self.turn)) quiet c.more.invariant.to in
    step_next to c.requires.sound c.requires.in_step c.requires.due

pub due-requires-in-more-clause-going : goal.due-requires-in-more-clause-going
due-requires-in-more-clause-going c =
    let quiet : c.more.fired ≡ Moved = search rules in
    let to : FiresTo (by_order counter_moves counter_course) (moment c.args.self.now.counts c.args.self.now.turn) c.args.most c.more.made Moved (moment c.more.self.counts c.more.self.turn) = subst (λ fired. FiresTo (by_order counter_moves counter_course) (moment c.args.self.now.counts c.args.self.now.turn) c.args.most c.more.made fired (moment c.more.self.counts c.more.self.turn)) quiet c.more.invariant.to in
    none_next to c.requires.sound c.requires.in_step c.requires.due

pub fire-fired-requires-in-more-clause-ready : goal.fire-fired-requires-in-more-clause-ready
fire-fired-requires-in-more-clause-ready c =
    let quiet : c.more.fired ≡ Moved = search rules in
    let to : FiresTo (by_order counter_moves counter_course) (moment c.args.self.now.counts c.args.self.now.turn) c.args.most c.more.made Moved (moment c.more.self.counts c.more.self.turn) = subst (λ fired. FiresTo (by_order counter_moves counter_course) (moment c.args.self.now.counts c.args.self.now.turn) c.args.most c.more.made fired (moment c.more.self.counts c.more.self.turn)) quiet c.more.invariant.to in
    let k = c.in-Some-due.k in
    let is : due_at counter_course c.more.self.counts c.more.self.turn ≡ Some k = sym c.due-in-more.ensures ∙ c.in-Some-due.is in
    (can_next to c.requires.sound c.requires.in_step c.requires.due k is).ready

pub fire-fired-requires-in-more-clause-going : goal.fire-fired-requires-in-more-clause-going
fire-fired-requires-in-more-clause-going c =
    let quiet : c.more.fired ≡ Moved = search rules in
    let to : FiresTo (by_order counter_moves counter_course) (moment c.args.self.now.counts c.args.self.now.turn) c.args.most c.more.made Moved (moment c.more.self.counts c.more.self.turn) = subst (λ fired. FiresTo (by_order counter_moves counter_course) (moment c.args.self.now.counts c.args.self.now.turn) c.args.most c.more.made fired (moment c.more.self.counts c.more.self.turn)) quiet c.more.invariant.to in
    none_next to c.requires.sound c.requires.in_step c.requires.due

pub fire-fired-requires-in-more-clause-sound : goal.fire-fired-requires-in-more-clause-sound
fire-fired-requires-in-more-clause-sound c =
    let quiet : c.more.fired ≡ Moved = search rules in
    let to : FiresTo (by_order counter_moves counter_course) (moment c.args.self.now.counts c.args.self.now.turn) c.args.most c.more.made Moved (moment c.more.self.counts c.more.self.turn) = subst (λ fired. FiresTo (by_order counter_moves counter_course) (moment c.args.self.now.counts c.args.self.now.turn) c.args.most c.more.made fired (moment c.more.self.counts c.more.self.turn)) quiet c.more.invariant.to in
    small_next to c.requires.sound c.requires.in_step c.requires.due

pub fire-fired-requires-in-more-clause-in_step : goal.fire-fired-requires-in-more-clause-in_step
fire-fired-requires-in-more-clause-in_step c =
    let quiet : c.more.fired ≡ Moved = search rules in
    let to : FiresTo (by_order counter_moves counter_course) (moment c.args.self.now.counts c.args.self.now.turn) c.args.most c.more.made Moved (moment c.more.self.counts c.more.self.turn) = subst (λ fired. FiresTo (by_order counter_moves counter_course) (moment c.args.self.now.counts c.args.self.now.turn) c.args.most c.more.made fired (moment c.more.self.counts c.more.self.turn)) quiet c.more.invariant.to in
    step_next to c.requires.sound c.requires.in_step c.requires.due

pub more-preserved : goal.more-preserved
more-preserved c =
    let quiet : c.more.fired ≡ Moved = search rules in
    let to : FiresTo (by_order counter_moves counter_course) (moment c.args.self.now.counts c.args.self.now.turn) c.args.most c.more.made Moved (moment c.more.self.counts c.more.self.turn) = subst (λ fired. FiresTo (by_order counter_moves counter_course) (moment c.args.self.now.counts c.args.self.now.turn) c.args.most c.more.made fired (moment c.more.self.counts c.more.self.turn)) quiet c.more.invariant.to in
    let k = c.in-Some-due.k in
    let is : due_at counter_course c.more.self.counts c.more.self.turn ≡ Some k = sym c.due-in-more.ensures ∙ c.in-Some-due.is in
    let can = can_next to c.requires.sound c.requires.in_step c.requires.due k is in
    let did = c.fire-fired-in-more.ensures in
    record {
      to = fires_more counter_moves counter_course to k is c.fire-fired-in-more.result (omega (arith, c.more-test.true)) can did.fired did.marking did.place;
      line = line_more counter_moves counter_course to k is (take c.args.self.now.len c.args.self.now.text) c.more.invariant.line did.last;
    }
