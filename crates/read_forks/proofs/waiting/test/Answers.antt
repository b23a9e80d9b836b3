use Rattle.std.proofs.Common.{ap, ◌∙◌, length, length-set}
use Rattle.op_net.specs.ApartLoads.{flags_of}
use Rattle.read_forks.proofs.waiting.test.Goals as goal

pub returns-clause-kept : goal.returns-clause-kept
returns-clause-kept g c =
    let did = c.mark_apart.ensures in
    record {
      net = did.net;
      marking = did.marking;
      place = did.place;
      text = did.last;
      apart = did.apart;
      counted = did.counted;
      room = ap length did.flags ∙ length-set (flags_of c.args.net.now) c.args.k c.can_load-ready.result;
    }
