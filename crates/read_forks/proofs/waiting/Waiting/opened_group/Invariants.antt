use Rattle.std.proofs.Common.{◌≡◌, ◌+◌, Some}
use Rattle.op_net.specs.NetView.{net_of as net_in}
use Rattle.operation_tables.specs.Waits.{IsNodeBefore, node_total}
use Rattle.fork_board.specs.LoadGroups.{spot}
use Rattle.read_forks.specs.OpenedGroups.{StandsAt}
use Rattle.read_forks.proofs.OpenedSteps.{HasOpened}
use Rattle.read_forks.proofs.OpenedWalks.{IsAlong}
use Rattle.read_forks.proofs.waiting.Waiting.opened_group.Given as goal

abbrev pub invariant-walk : goal.invariant-walk
invariant-walk g l =
    let x = net_in l.fn.net in
    let s = spot l.edge l.passed in
    record {
      has : HasOpened l.fn.net l.fn.self l.line s l.group.left l.self l.net;
      all : l.most + l.group.left ≡ node_total x;
      along : IsAlong x l.line s l.group.left (spot l.group.edge l.group.passed);
      stands : StandsAt x l.self.links.items l.line l.at (spot l.group.edge l.group.passed);
      from : IsNodeBefore x l.line (Some l.edge) l.passed l.group.from;
    }

abbrev pub decreases-walk : goal.decreases-walk
decreases-walk g l = l.most
