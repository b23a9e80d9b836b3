use Rattle.f77_meaning.specs.Storage.{memory_of}
use Rattle.op_net.specs.NetView.{net_of}
use Rattle.op_net.proofs.ReadyNodes.{others_marked}
use Rattle.op_net.proofs.net.OpNet.others_are_marked.Goals as goal

pub returns-clause-others : goal.returns-clause-others
returns-clause-others g c =
    let s = c.args.self.now in
    others_marked (net_of s) s.places (memory_of s.storage) s.trapped s.counted c.requires

pub returns-clause-room : goal.returns-clause-room
returns-clause-room g c = c.args.self.now.own_places.marks
