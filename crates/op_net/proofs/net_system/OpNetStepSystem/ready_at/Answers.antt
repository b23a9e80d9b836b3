use Rattle.std.proofs.Common.{◌<◌, sym, subst}
use Rattle.firing.proofs.ChosenLemmas.{marked_count, marked_place}
use Rattle.op_board.specs.OperationTokens.{operation_moves}
use Rattle.op_net.specs.NetView.{marking_of, net_of}
use Rattle.op_net.proofs.ReadyNodes.{ready_marks}
use Rattle.op_net.proofs.net_system.OpNetStepSystem.ready_at.Goals as goal

pub at-requires : goal.at-requires
at-requires g c =
    let all = marked_count (operation_moves (net_of c.args.self.now)) (marking_of c.args.self.now) (ready_marks c.args.self.now c.requires.keeps) in
    subst (λ n. c.args.nth < n) (sym all) c.requires.some

pub returns : goal.returns
returns g c = marked_place (operation_moves (net_of c.args.self.now)) (marking_of c.args.self.now) (ready_marks c.args.self.now c.requires.keeps) c.args.nth c.at.result c.at.ensures
