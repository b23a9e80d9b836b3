use Rattle.std.proofs.Common.{◌≡◌, ◌-◌, take}
use Rattle.firing.specs.Play.{by_order, moment}
use Rattle.firing.specs.SourceOrder.{FiresTo, newest_after}
use Rattle.sample_nets.specs.Counting.{counter_moves}
use Rattle.sample_nets.specs.Turns.{counter_course}
use Rattle.sample_nets.proofs.counters.CountersSourceOrder.fire_due.Given as goal

abbrev pub invariant-more : goal.invariant-more
invariant-more l =
    let own = by_order counter_moves counter_course in
    let start = moment l.fn.self.counts l.fn.self.turn in
    record {
      to : FiresTo own start l.most l.made l.fired (moment l.self.counts l.self.turn);
      line : take l.self.len l.self.text ≡ newest_after own start l.made (take l.fn.self.len l.fn.self.text);
    }

abbrev pub decreases-more : goal.decreases-more
decreases-more l = l.most - l.made
