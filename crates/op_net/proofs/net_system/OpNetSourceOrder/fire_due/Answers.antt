use Rattle.std.proofs.Common.{◌≡◌, ◌≤◌, ◌+◌, None, Some, sym, ap, ◌∙◌, rules, arith}
use Rattle.firing.specs.declared.system.Fired.TheVariants.{Moved}
use Rattle.firing.specs.Control.{due_at}
use Rattle.net_board.specs.declared.control.Control.{Control}
use Rattle.op_board.specs.OperationCourse.{due_operation, operation_course}
use Rattle.op_net.specs.NetView.{marking_of, net_of}
use Rattle.op_net.proofs.NetFirings.{CanGoOn, fired_on, goes_on}
use Rattle.op_net.proofs.net_system.OpNetSourceOrder.fire_due.Goals as goal

pub more-init : goal.more-init
more-init g c = record { did = c.go_on-made.ensures.fired; visit = c.go_on-made.ensures.visit; here = c.go_on-made.ensures.here }

pub go_on-more-requires : goal.go_on-more-requires
go_on-more-requires g c =
    let quiet : c.more.fired ≡ Moved = search rules in
    let own : due_operation (net_of c.more.self) c.more.visit.control ≡ Some c.in-Some-due_in-2.k = sym c.due_in-in-more.ensures ∙ c.in-Some-due_in-2.is in
    let goes : CanGoOn c.more.self = goes_on c.more.invariant.did quiet c.requires.sound c.requires.in_step c.requires.due in
    (omega arith, (omega (arith, c.more-test.true), (c.more.invariant.visit, (c.more.invariant.here, (own, (goes.is_sound, (goes.stays, goes.going)))))))

pub more-preserved : goal.more-preserved
more-preserved g c =
    let quiet : c.more.fired ≡ Moved = search rules in
    let did = c.go_on-more.ensures.fired in
    let bounded = did.to.bounded in
    let fits : c.more.made + c.go_on-more.result.0 ≤ c.args.most = omega (arith, bounded, c.more-test.true) in
    record { did = fired_on quiet fits c.more.invariant.did did; visit = c.go_on-more.ensures.visit; here = c.go_on-more.ensures.here }

pub returns-in_default-due_in-clause-fires : goal.returns-in_default-due_in-clause-fires
returns-in_default-due_in-clause-fires g c =
    let x = net_of c.args.self.now in
    let m = marking_of c.args.self.now in
    let none : c.due_in.result ≡ None = search rules in
    let here : c.args.self.now.control ≡ Some c.visit_at-visit.result.control = c.in-Some.is ∙ ap (λ (d : Control). Some d) (sym c.visit_at-visit.ensures.place) in
    absurd (c.requires.due (ap (due_at (operation_course x) m) here ∙ sym c.due_in.ensures ∙ none))
