use Rattle.std.proofs.Common.{◌≡◌, Some, None, sym, ◌∙◌, arith, rules}
use Rattle.firing.specs.Control.{due_at}
use Rattle.firing.proofs.ControlLemmas.{due_fires}
use Rattle.firing.proofs.DueLemmas.{one_due, one_line}
use Rattle.fork_board.specs.ForkTokens.{fork_course, fork_moves}
use Rattle.read_forks.specs.ForkView.{marking_of, net_of, place_of}
use Rattle.read_forks.specs.StaysInForkStep.{fork_source_order}
use Rattle.read_forks.proofs.ForkCourses.{due_there}
use Rattle.read_forks.proofs.fork_system.ForkNetSourceOrder.fire_due.Goals as goal

pub fire-requires : goal.fire-requires
fire-requires g c =
    let x = net_of c.args.self.now in
    let m = marking_of c.args.self.now in
    let is : due_at (fork_course x) m (place_of c.args.self.now) ≡ Some c.in-Some.k = sym (due_there x m (place_of c.args.self.now)) ∙ sym (c.due_node.ensures m.operations) ∙ c.in-Some.is in
    let can = due_fires (fork_source_order x) m (place_of c.args.self.now) c.in-Some.k c.requires.sound c.requires.in_step c.requires.going is in
    (omega arith, (can.node, (can.ready, (c.requires.going, (c.requires.sound, c.requires.in_step)))))

pub returns-in-Some-clause-fires : goal.returns-in-Some-clause-fires
returns-in-Some-clause-fires g c =
    let x = net_of c.args.self.now in
    let m = marking_of c.args.self.now in
    let k = c.in-Some.k in
    let is : due_at (fork_course x) m (place_of c.args.self.now) ≡ Some k = sym (due_there x m (place_of c.args.self.now)) ∙ sym (c.due_node.ensures m.operations) ∙ c.in-Some.is in
    let can = due_fires (fork_source_order x) m (place_of c.args.self.now) k c.requires.sound c.requires.in_step c.requires.going is in
    one_due (fork_moves x) (fork_course x) m (place_of c.args.self.now) k is c.args._most c.fire.result c.requires.some can c.fire.ensures.fired c.fire.ensures.marking c.fire.ensures.place

pub returns-in-Some-clause-last : goal.returns-in-Some-clause-last
returns-in-Some-clause-last g c =
    let x = net_of c.args.self.now in
    let m = marking_of c.args.self.now in
    let k = c.in-Some.k in
    let is : due_at (fork_course x) m (place_of c.args.self.now) ≡ Some k = sym (due_there x m (place_of c.args.self.now)) ∙ sym (c.due_node.ensures m.operations) ∙ c.in-Some.is in
    one_line (fork_moves x) (fork_course x) m (place_of c.args.self.now) k is c.args.self.now.net.text.items c.fire.ensures.last

pub returns-in-None-clause-fires : goal.returns-in-None-clause-fires
returns-in-None-clause-fires g c =
    let m = marking_of c.args.self.now in
    let none : c.due_node.result ≡ None = search rules in
    absurd (c.requires.due (sym (due_there (net_of c.args.self.now) m (place_of c.args.self.now)) ∙ sym (c.due_node.ensures m.operations) ∙ none))
