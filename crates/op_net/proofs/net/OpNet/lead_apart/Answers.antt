use Rattle.std.proofs.Common.{refl}
use Rattle.op_net.specs.NetView.{net_of}
use Rattle.op_net.proofs.ApartNets.{stays_uncounted}
use Rattle.op_net.proofs.net.OpNet.lead_apart.Goals as goal

pub invariant_of-self : goal.invariant_of-self
invariant_of-self g c =
    let s = c.args.self.now in
    let own = s.own_places in
    record {
      own_places = record { lines = own.lines; passed = own.passed; edges = own.edges; values = own.values; marks = own.marks; room = own.room; stand = own.stand; lie = own.lie };
      counted = stays_uncounted (net_of s) s.places _ c.requires.uncounted s.counted refl refl refl;
      «data» = s.data;
      text_room = s.text_room;
      draft_room = s.draft_room;
      args_room = s.args_room;
      values_room = s.values_room;
      placed = s.placed;
    }
