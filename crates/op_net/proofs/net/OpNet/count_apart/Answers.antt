use Rattle.std.proofs.Common.{ap}
use Rattle.f77_meaning.specs.Storage.{memory_of}
use Rattle.op_board.specs.OperationTokens.{OperationTokens}
use Rattle.op_net.specs.NetView.{net_of}
use Rattle.op_net.proofs.ReadyNodes.{others_marked}
use Rattle.op_net.proofs.net.OpNet.count_apart.Goals as goal

pub returns-clause-marking : goal.returns-clause-marking
returns-clause-marking g c = ap (λ (m : OperationTokens). record m { tokens = record m.tokens { memory = memory_of c.args.self.now.storage; trap = c.args.self.now.trapped } }) c.keep_counts.ensures.standing

pub returns-clause-others : goal.returns-clause-others
returns-clause-others g c = others_marked (net_of c.args.self.now) c.keep_counts.new.self (memory_of c.args.self.now.storage) c.args.self.now.trapped c.keep_counts.ensures.counted c.keep_counts.ensures.kept

pub returns-clause-room : goal.returns-clause-room
returns-clause-room g c = c.keep_counts.ensures.places.marks
