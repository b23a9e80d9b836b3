use Rattle.std.proofs.Common.{ap, ◌∙◌}
use Rattle.f77_meaning.specs.Storage.{memory_of}
use Rattle.op_board.specs.OperationTokens.{OperationTokens}
use Rattle.op_net.specs.NetView.{marking_of, net_of}
use Rattle.operation_places.specs.StandingChanges.{lines_led}
use Rattle.op_net.proofs.net.OpNet.leave_piece.Goals as goal

pub returns-clause-marking : goal.returns-clause-marking
returns-clause-marking g c =
    let x = net_of c.args.self.now in
    let m = marking_of c.args.self.now in
    ap (λ (m : OperationTokens). record m { tokens = record m.tokens { memory = memory_of c.args.self.now.storage; trap = c.args.self.now.trapped } }) c.lead_piece.ensures.standing ∙ ap (lines_led x m c.args.visit.now.control.piece) c.out_edge-edge.ensures.edge
