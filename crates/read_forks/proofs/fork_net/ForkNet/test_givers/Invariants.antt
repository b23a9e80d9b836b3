use Rattle.std.proofs.Common.{◌≡◌, ◌<◌, ◌≤◌, ℕ, Some, length, slice_get}
use Rattle.firing.specs.ReadySet.{has}
use Rattle.op_net.specs.ApartLoads.{flags_of}
use Rattle.op_net.specs.NetView.{marking_of as operations_on}
use Rattle.read_forks.specs.ForkView.{net_of}
use Rattle.read_forks.specs.WaitingLoads.{IsRemarked, KeepsMarks, waits_for_nothing}
use Rattle.read_forks.proofs.fork_net.ForkNet.test_givers.Given as goal

abbrev pub invariant-loop-n : goal.invariant-loop-n
invariant-loop-n g l =
    let s = l.fn.self in
    let x = net_of s in
    let m = operations_on s.net in
    let closed = s.waiting.closed.items in
    record {
      rest : IsRemarked s.net l.self.net;
      waiting : l.self.waiting ≡ s.waiting;
      marks : KeepsMarks x m closed closed (flags_of s.net) (flags_of l.self.net);
      right : (p j : ℕ) → l.fn.step.giver ≤ p → p < l.n → slice_get s.waiting.givers.items p ≡ Some j → j < length (flags_of s.net) → has (flags_of l.self.net) j ≡ waits_for_nothing x m closed j;
    }
