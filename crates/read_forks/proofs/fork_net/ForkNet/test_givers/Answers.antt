use Rattle.std.proofs.Common.{◌≡◌, ◌<◌, ⊎_elim, ℕ, get_or, length, set, Some, slice_get, refl, sym, ap, ◌∙◌, subst, arith}
use Rattle.std.proofs.lemmas.Option.{slice_get_read}
use Rattle.firing.specs.ReadySet.{has}
use Rattle.op_net.specs.ApartLoads.{flags_of}
use Rattle.op_net.specs.NetView.{marking_of as operations_on, net_of as net_in}
use Rattle.read_forks.specs.ForkView.{net_of}
use Rattle.read_forks.specs.WaitingLoads.{waits_for_nothing}
use Rattle.read_forks.specs.KeptLoads.{AreKept}
use Rattle.read_forks.specs.declared.waiting.Waiting.{Waiting}
use Rattle.read_forks.proofs.KeptNets.{apart_too, kept_there, remarked_self, remarked_twice}
use Rattle.read_forks.proofs.ListedLoads.{IsListedAt, listed_place}
use Rattle.read_forks.proofs.LoadFlags.{below_or_last}
use Rattle.read_forks.proofs.TestedNets.{can_test, room_steps, tested_flags}
use Rattle.read_forks.proofs.WaitTests.{kept_twice, marks_kept, right_here, stays_right, test_keeps}
use Rattle.read_forks.proofs.fork_net.ForkNet.test_givers.Goals as goal

pub loop-n-init : goal.loop-n-init
loop-n-init g c =
    let s = c.args.self.now in
    record {
      rest = remarked_self s.net;
      waiting = refl;
      marks = marks_kept (net_of s) (operations_on s.net) s.waiting.closed.items (flags_of s.net);
      right = λ p j from low is inside. absurd (omega (arith, from, low));
    }

pub index-j-requires : goal.index-j-requires
index-j-requires g c =
    let s = c.args.self.now in
    let over = c.loop-n-test.true in
    let end = c.loop-n.auto.n-end in
    let room = s.kept.tables.values.inside c.args.k c.args.step c.requires.step in
    let low : c.loop-n.n < length s.waiting.givers.items = omega (arith, over, end, room) in
    let there = subst (λ (w : Waiting). c.loop-n.n < length w.givers.items) (sym c.loop-n.invariant.waiting) low in
    omega (arith, there)

pub at-requires : goal.at-requires
at-requires g c =
    let s = c.args.self.now in
    let x = net_of s in
    let m = operations_on s.net in
    let closed = s.waiting.closed.items in
    let listed = s.waiting.givers.items in
    let values = s.kept.tables.values in
    let own = c.requires.step in
    let i = c.loop-n.invariant in
    let over = c.loop-n-test.true in
    let end = c.loop-n.auto.n-end in
    let room = values.inside c.args.k c.args.step own in
    let low : c.loop-n.n < length listed = omega (arith, over, end, room) in
    let j : ℕ = c.index-j.result.now in
    let at : slice_get listed c.loop-n.n ≡ Some j = slice_get_read listed (length listed) c.loop-n.n j refl low (subst (λ (w : Waiting). j ≡ get_or w.givers.items c.loop-n.n j) i.waiting c.index-j.ensures) in
    let exists = values.exist c.loop-n.n j at in
    let loads = values.loads c.loop-n.n j at in
    let long = room_steps s in
    let low_step : j < length s.waiting.steps = omega (arith, exists, long) in
    let there = subst (λ (w : Waiting). j < length w.steps) (sym i.waiting) low_step in
    omega (arith, there)

pub test-requires : goal.test-requires
test-requires g c =
    let s = c.args.self.now in
    let x = net_of s in
    let m = operations_on s.net in
    let closed = s.waiting.closed.items in
    let listed = s.waiting.givers.items in
    let values = s.kept.tables.values in
    let own = c.requires.step in
    let i = c.loop-n.invariant in
    let over = c.loop-n-test.true in
    let end = c.loop-n.auto.n-end in
    let room = values.inside c.args.k c.args.step own in
    let low : c.loop-n.n < length listed = omega (arith, over, end, room) in
    let j : ℕ = c.index-j.result.now in
    let at : slice_get listed c.loop-n.n ≡ Some j = slice_get_read listed (length listed) c.loop-n.n j refl low (subst (λ (w : Waiting). j ≡ get_or w.givers.items c.loop-n.n j) i.waiting c.index-j.ensures) in
    let exists = values.exist c.loop-n.n j at in
    let loads = values.loads c.loop-n.n j at in
    let long = room_steps s in
    let step = c.at.result in
    let there = subst (λ (w : Waiting). slice_get w.steps j ≡ Some step) i.waiting c.at.ensures in
    (omega arith, can_test s c.loop-n.self.net i.rest.net i.rest.marking i.rest.apart i.waiting j step exists there loads)

pub loop-n-preserved : goal.loop-n-preserved
loop-n-preserved g c =
    let s = c.args.self.now in
    let x = net_of s in
    let m = operations_on s.net in
    let closed = s.waiting.closed.items in
    let listed = s.waiting.givers.items in
    let values = s.kept.tables.values in
    let own = c.requires.step in
    let i = c.loop-n.invariant in
    let over = c.loop-n-test.true in
    let end = c.loop-n.auto.n-end in
    let room = values.inside c.args.k c.args.step own in
    let low : c.loop-n.n < length listed = omega (arith, over, end, room) in
    let j : ℕ = c.index-j.result.now in
    let at : slice_get listed c.loop-n.n ≡ Some j = slice_get_read listed (length listed) c.loop-n.n j refl low (subst (λ (w : Waiting). j ≡ get_or w.givers.items c.loop-n.n j) i.waiting c.index-j.ensures) in
    let exists = values.exist c.loop-n.n j at in
    let loads = values.loads c.loop-n.n j at in
    let now = c.loop-n.self.net in
    let did = c.test.ensures in
    let flags = tested_flags s now i.rest.net i.rest.marking i.rest.apart j (flags_of c.test.new.net) (did.flags ∙ ap (λ (w : Waiting). set (flags_of now) j (waits_for_nothing (net_in now) (operations_on now) w.closed.items j)) i.waiting) in
    record {
      rest = remarked_twice s.net now c.test.new.net i.rest did.kept;
      waiting = i.waiting;
      marks = kept_twice x m closed closed closed (flags_of s.net) (flags_of now) (flags_of c.test.new.net) i.marks (test_keeps x m closed (flags_of now) (flags_of c.test.new.net) j flags);
      right = λ p a since under is inside. ⊎_elim
          (λ (less : p < c.loop-n.n). stays_right x m closed (flags_of now) (flags_of c.test.new.net) j a flags (subst (λ (n : ℕ). a < n) (sym i.rest.room) inside) (i.right p a since less is inside))
          (λ (same : p ≡ c.loop-n.n).
          let both : Some a ≡ Some j = sym is ∙ ap (slice_get listed) same ∙ at in
          let e : a ≡ j = cc in
          subst (λ (n : ℕ). has (flags_of c.test.new.net) n ≡ waits_for_nothing x m closed n) (sym e)
          (right_here x m closed (flags_of now) (flags_of c.test.new.net) j flags (subst (λ (n : ℕ). n < length (flags_of now)) e (subst (λ (n : ℕ). a < n) (sym i.rest.room) inside))))
          (below_or_last p c.loop-n.n under);
    }

pub returns-clause-right : goal.returns-clause-right
returns-clause-right g c = λ j low inside loads took.
    let s = c.args.self.now in
    let over = c.loop-n-test.false in
    let end = c.loop-n.auto.n-end in
    let p : IsListedAt j s.waiting.givers.items c.args.step.giver c.args.step.givers = listed_place j s.waiting.givers.items c.args.step.giver c.args.step.givers (s.kept.tables.values.givers c.args.k c.args.step c.requires.step j low loads took) in
    let below = p.below in
    c.loop-n.invariant.right p.place j p.from (omega (arith, below, over, end)) p.at inside

pub invariant_of-self : goal.invariant_of-self
invariant_of-self g c =
    let s = c.args.self.now in
    let i = c.loop-n.invariant in
    let now = c.test.new.net in
    let rest = remarked_twice s.net c.loop-n.self.net now i.rest c.test.ensures.kept in
    record {
      apart = apart_too s.net now rest.net rest.apart s.apart;
      kept = subst (λ (w : Waiting). AreKept (net_in now) (operations_on now) w) (sym i.waiting) (kept_there (net_of s) (net_in now) (operations_on s.net) (operations_on now) s.waiting rest.net rest.marking s.kept);
    }
