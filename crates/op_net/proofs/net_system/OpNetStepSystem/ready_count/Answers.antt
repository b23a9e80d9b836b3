use Rattle.std.proofs.Common.{◌∙◌}
use Rattle.firing.proofs.ChosenLemmas.{marked_count}
use Rattle.op_board.specs.OperationTokens.{operation_moves}
use Rattle.op_net.specs.NetView.{marking_of, net_of}
use Rattle.op_net.proofs.ReadyNodes.{ready_marks}
use Rattle.op_net.proofs.net_system.OpNetStepSystem.ready_count.Goals as goal

pub returns : goal.returns
returns g c = c.len.ensures ∙ marked_count (operation_moves (net_of c.args.self.now)) (marking_of c.args.self.now) (ready_marks c.args.self.now c.requires.keeps)
