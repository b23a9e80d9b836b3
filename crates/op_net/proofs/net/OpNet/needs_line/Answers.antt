use Rattle.std.proofs.Common.{◌∙◌, arith}
use Rattle.operation_tables.proofs.PlannedOperations.{inside_needs, planned_needs}
use Rattle.op_net.proofs.net.OpNet.needs_line.Goals as goal

pub at-requires : goal.at-requires
at-requires g c =
    let low = inside_needs c.args.self.now.board.plan c.args.piece c.args.i c.index.result.now c.requires.piece c.requires.operation c.index.ensures in
    omega (arith, low)

pub returns : goal.returns
returns g c =
    c.holds.ensures.member ∙ planned_needs c.args.self.now.board.plan c.args.piece c.args.i c.index.result.now c.requires.piece c.requires.operation c.index.ensures c.at.result c.at.ensures c.args.line
