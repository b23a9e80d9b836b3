use Rattle.std.proofs.Common.{◌==◌, sym, ap, ◌∙◌}
use Rattle.op_net.proofs.ReadyNodes.{node_ready}
use Rattle.op_net.proofs.net_system.OpNetStepSystem.ready.Goals as goal

pub returns : goal.returns
returns g c = ap (λ n. n == 0) c.waits.ensures ∙ sym (node_ready c.args.self.now c.args.k)
