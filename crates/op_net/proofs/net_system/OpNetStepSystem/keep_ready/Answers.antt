use Rattle.std.proofs.Common.{ap}
use Rattle.f77_meaning.specs.Storage.{memory_of}
use Rattle.op_board.specs.OperationTokens.{OperationTokens}
use Rattle.op_net.proofs.net_system.OpNetStepSystem.keep_ready.Goals as goal

pub returns-clause-marking : goal.returns-clause-marking
returns-clause-marking g c = ap (λ (m : OperationTokens). record m { tokens = record m.tokens { memory = memory_of c.args.self.now.storage; trap = c.args.self.now.trapped } }) c.keep_whole.ensures.standing
