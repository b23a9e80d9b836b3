use Rattle.std.proofs.Common.{◌≡◌, ◌<◌, inr, ⊎_elim, Some, slice_get, refl, sym, ap, ◌∙◌, subst, arith}
use Rattle.op_board.specs.OperationNets.{OperationNet}
use Rattle.op_net.specs.ApartLoads.{flags_of}
use Rattle.op_net.specs.NetView.{marking_of as operations_on, net_of as net_in}
use Rattle.operation_tables.specs.Waits.{node_total}
use Rattle.fork_board.specs.ForkTokens.{ForkTokens, fork_moves}
use Rattle.read_forks.specs.ForkView.{marking_of, net_of}
use Rattle.read_forks.specs.KeptLoads.{AreKept}
use Rattle.read_forks.specs.declared.waiting.Waiting.{Waiting}
use Rattle.read_forks.proofs.KeptNets.{apart_too, kept_there}
use Rattle.read_forks.proofs.LoadNets.{view_there}
use Rattle.read_forks.proofs.TestedNets.{can_test_node, other_mark, right_next, room_steps}
use Rattle.read_forks.proofs.fork_net.ForkNet.mark_all.Goals as goal

pub loop-k-init : goal.loop-k-init
loop-k-init g c =
    let s = c.args.self.now in
    let did = c.count_apart.ensures in
    record {
      net = did.net;
      marking = did.marking;
      place = did.place;
      last = did.last;
      apart = did.apart;
      counted = did.counted;
      waiting = refl;
      room = did.room ∙ ap (λ (y : OperationNet). node_total y) did.net;
      right = λ j low which. ⊎_elim
          (λ none. other_mark s c.count_apart.new.self did.net did.marking did.apart did.others j low none)
          (λ (under : j < 0). absurd (omega (arith, under)))
          which;
    }

pub at-step-requires : goal.at-step-requires
at-step-requires g c =
    let s = c.args.self.now in
    let x = net_of s in
    let over = c.loop-k-test.true in
    let count = c.nodes-k-end.ensures in
    let end = c.loop-k.auto.k-end in
    let total : node_total (net_in c.count_apart.new.self) ≡ node_total x = ap (λ (y : OperationNet). node_total y) c.count_apart.ensures.net in
    let long = room_steps s in
    omega (arith, over, count, end, total, long)

pub test_load-requires : goal.test_load-requires
test_load-requires g c =
    let s = c.args.self.now in
    let x = net_of s in
    let i = c.loop-k.invariant in
    let over = c.loop-k-test.true in
    let count = c.nodes-k-end.ensures in
    let end = c.loop-k.auto.k-end in
    let total : node_total (net_in c.count_apart.new.self) ≡ node_total x = ap (λ (y : OperationNet). node_total y) c.count_apart.ensures.net in
    let low : c.loop-k.k < node_total x = omega (arith, over, count, end, total) in
    let long = room_steps s in
    let step = c.at-step.result in
    let at : slice_get s.waiting.steps c.loop-k.k ≡ Some step = subst (λ (w : Waiting). slice_get w.steps c.loop-k.k ≡ Some step) i.waiting c.at-step.ensures in
    let is = s.kept.tables.steps.each c.loop-k.k step at in
    (omega arith, can_test_node s c.loop-k.self.net i.net i.marking i.apart i.waiting c.loop-k.k step low at)

pub loop-k-preserved : goal.loop-k-preserved
loop-k-preserved g c =
    let s = c.args.self.now in
    let x = net_of s in
    let i = c.loop-k.invariant in
    let over = c.loop-k-test.true in
    let count = c.nodes-k-end.ensures in
    let end = c.loop-k.auto.k-end in
    let total : node_total (net_in c.count_apart.new.self) ≡ node_total x = ap (λ (y : OperationNet). node_total y) c.count_apart.ensures.net in
    let low : c.loop-k.k < node_total x = omega (arith, over, count, end, total) in
    let long = room_steps s in
    let step = c.at-step.result in
    let at : slice_get s.waiting.steps c.loop-k.k ≡ Some step = subst (λ (w : Waiting). slice_get w.steps c.loop-k.k ≡ Some step) i.waiting c.at-step.ensures in
    let is = s.kept.tables.steps.each c.loop-k.k step at in
    let now = c.loop-k.self.net in
    let did = c.test_load.ensures in
    record {
      net = did.kept.net ∙ i.net;
      marking = did.kept.marking ∙ i.marking;
      place = did.kept.place ∙ i.place;
      last = did.kept.text ∙ i.last;
      apart = did.kept.apart ∙ i.apart;
      counted = did.kept.counted ∙ i.counted;
      waiting = i.waiting;
      room = did.kept.room ∙ i.room;
      right = right_next s now i.net i.marking i.apart c.loop-k.self.waiting.closed.items (ap (λ (w : Waiting). w.closed.items) i.waiting) c.loop-k.k step low at (flags_of c.test_load.new.net) did.tested did.left i.room i.right;
    }

pub invariant_of-self-in-loop-k : goal.invariant_of-self-in-loop-k
invariant_of-self-in-loop-k g c =
    let s = c.args.self.now in
    let i = c.loop-k.invariant in
    let kept = c.test_load.ensures.kept in
    let now = c.test_load.new.net in
    record {
      apart = apart_too s.net now (kept.net ∙ i.net) (kept.apart ∙ i.apart) s.apart;
      kept = subst (λ (w : Waiting). AreKept (net_in now) (operations_on now) w) (sym i.waiting) (kept_there (net_of s) (net_in now) (operations_on s.net) (operations_on now) s.waiting (kept.net ∙ i.net) (kept.marking ∙ i.marking) s.kept);
    }

pub returns-clause-keeps : goal.returns-clause-keeps
returns-clause-keeps g c =
    let s = c.args.self.now in
    let x = net_of s in
    let i = c.loop-k.invariant in
    let now = c.loop-k.self in
    let over = c.loop-k-test.false in
    let count = c.nodes-k-end.ensures in
    let end = c.loop-k.auto.k-end in
    let total : node_total (net_in c.count_apart.new.self) ≡ node_total x = ap (λ (y : OperationNet). node_total y) c.count_apart.ensures.net in
    let view : marking_of now ≡ marking_of s = view_there x (net_of now) (operations_on s.net) (operations_on now.net) s.waiting now.waiting i.net i.marking i.waiting in
    record {
      kept = i.counted;
      marks = record {
        room = i.room ∙ ap (λ (y : OperationNet). node_total y) (sym i.net);
        right = λ j low.
            let own : j < node_total x = subst (λ (y : OperationNet). j < node_total y) i.net low in
            i.right j own (inr (omega (arith, own, over, count, end, total)))
            ∙ ap (λ (t : ForkTokens). (fork_moves x).ready t j) (sym view)
            ∙ ap (λ (y : OperationNet). (fork_moves y).ready (marking_of now) j) (sym i.net);
      };
    }

pub returns-clause-marking : goal.returns-clause-marking
returns-clause-marking g c =
    let s = c.args.self.now in
    let i = c.loop-k.invariant in
    let now = c.loop-k.self in
    view_there (net_of s) (net_of now) (operations_on s.net) (operations_on now.net) s.waiting now.waiting i.net i.marking i.waiting

pub invariant_of-self : goal.invariant_of-self
invariant_of-self g c =
    let s = c.args.self.now in
    let did = c.count_apart.ensures in
    let now = c.count_apart.new.self in
    record {
      apart = apart_too s.net now did.net did.apart s.apart;
      kept = kept_there (net_of s) (net_in now) (operations_on s.net) (operations_on now) s.waiting did.net did.marking s.kept;
    }
