use Rattle.std.proofs.Common.{◌≡◌, ◌-◌, Some}
use Rattle.op_net.specs.NetFirings.{HasFired}
use Rattle.op_net.specs.NetView.{net_of}
use Rattle.operation_places.specs.Visits.{IsVisit}
use Rattle.op_net.proofs.net_system.OpNetSourceOrder.fire_due.Given as goal

abbrev pub invariant-more : goal.invariant-more
invariant-more g l = record {
  did : HasFired l.fn.self l.most l.made l.fired l.self;
  visit : IsVisit (net_of l.self) l.visit;
  here : l.self.control ≡ Some l.visit.control;
}

abbrev pub decreases-more : goal.decreases-more
decreases-more g l = l.most - l.made
