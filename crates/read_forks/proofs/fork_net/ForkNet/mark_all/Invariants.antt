use Rattle.std.proofs.Common.{◌≡◌, ◌<◌, ◌⊎◌, ℕ, true, false, length}
use Rattle.firing.specs.ReadySet.{has}
use Rattle.op_board.specs.OperationNets.{operation_node}
use Rattle.op_net.specs.ApartLoads.{apart_of, flags_of}
use Rattle.op_net.specs.NetView.{marking_of as operations_on}
use Rattle.operation_tables.specs.Waits.{node_total}
use Rattle.fork_board.specs.ForkTokens.{fork_moves, is_load_node}
use Rattle.read_forks.specs.ForkView.{marking_of, net_of}
use Rattle.read_forks.proofs.fork_net.ForkNet.mark_all.Given as goal

abbrev pub invariant-loop-k : goal.invariant-loop-k
invariant-loop-k g l =
    let s = l.fn.self in
    let x = net_of s in
    record {
      net : net_of l.self ≡ x;
      marking : operations_on l.self.net ≡ operations_on s.net;
      place : l.self.net.control ≡ s.net.control;
      last : l.self.net.text.items ≡ s.net.text.items;
      apart : apart_of l.self.net ≡ apart_of s.net;
      counted : l.self.net.places.counted ≡ true;
      waiting : l.self.waiting ≡ s.waiting;
      room : length (flags_of l.self.net) ≡ node_total x;
      right : (j : ℕ) → j < node_total x → (is_load_node x (operation_node x j) ≡ false) ⊎ (j < l.k) → has (flags_of l.self.net) j ≡ (fork_moves x).ready (marking_of s) j;
    }
