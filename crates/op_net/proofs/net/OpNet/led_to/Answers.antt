use Rattle.std.proofs.Common.{refl, arith}
use Rattle.op_net.proofs.net.OpNet.led_to.Goals as goal

pub lead_of-lead-requires : goal.lead_of-lead-requires
lead_of-lead-requires g c = (omega arith, (c.requires.line, (c.requires.edge, c.args.self.now.counted.leads)))

pub returns-clause-node : goal.returns-clause-node
returns-clause-node g c = c.lead_of-lead.ensures.node refl

pub invariant_of-self : goal.invariant_of-self
invariant_of-self g c =
    let s = c.args.self.now in
    let were = s.counted in
    let own = s.own_places in
    record {
      own_places = record { lines = own.lines; passed = own.passed; edges = own.edges; values = own.values; marks = own.marks; room = own.room; stand = own.stand; lie = own.lie };
      counted = record { counts = were.counts; marks = were.marks; none = were.none; leads = c.lead_of-lead.ensures.leads };
      «data» = s.data;
      text_room = s.text_room;
      draft_room = s.draft_room;
      args_room = s.args_room;
      values_room = s.values_room;
      placed = s.placed;
    }
