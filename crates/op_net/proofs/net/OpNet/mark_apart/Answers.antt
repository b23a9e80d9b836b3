use Rattle.std.proofs.Common.{Bool, List, length, ap, ◌∙◌, arith}
use Rattle.std.proofs.lemmas.List.{length-set}
use Rattle.op_net.specs.NetView.{net_of}
use Rattle.op_net.proofs.ApartNets.{marked_apart}
use Rattle.op_net.proofs.net.OpNet.mark_apart.Goals as goal

pub put-requires : goal.put-requires
put-requires g c =
    let marks = c.args.self.now.own_places.marks in
    omega (arith, marks, c.requires.node)

pub invariant_of-self : goal.invariant_of-self
invariant_of-self g c =
    let s = c.args.self.now in
    let own = s.own_places in
    record {
      own_places = record {
        lines = own.lines;
        passed = own.passed;
        edges = own.edges;
        values = own.values;
        marks = ap (λ (marks : List Bool). length marks) c.put.ensures ∙ length-set s.places.set c.args.k c.args.ready ∙ own.marks;
        room = own.room;
        stand = own.stand;
        lie = own.lie;
      };
      counted = marked_apart (net_of s) s.places _ c.args.k c.args.ready s.counted c.requires.apart c.put.ensures;
      «data» = s.data;
      text_room = s.text_room;
      draft_room = s.draft_room;
      args_room = s.args_room;
      values_room = s.values_room;
      placed = s.placed;
    }
