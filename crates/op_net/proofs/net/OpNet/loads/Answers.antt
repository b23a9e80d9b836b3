use Rattle.std.proofs.Common.{sym, ap, ◌∙◌, arith}
use Rattle.op_net.specs.ApartLoads.{is_load_name}
use Rattle.op_net.proofs.ApartNets.{not_load}
use Rattle.operation_tables.proofs.PlannedOperations.{inside_operations, planned_name}
use Rattle.op_net.proofs.net.OpNet.loads.Goals as goal

pub index-requires-2 : goal.index-requires-2
index-requires-2 g c =
    let low = inside_operations c.args.self.now.board.plan c.args.piece c.args.i c.index.result.now c.requires.piece c.requires.operation c.index.ensures in
    omega (arith, low)

pub returns-in-Load : goal.returns-in-Load
returns-in-Load g c =
    let name = c.work_name.ensures ∙ planned_name c.args.self.now.board.plan c.args.piece c.args.i c.index.result.now c.requires.piece c.requires.operation c.index.ensures c.index-2.result.now c.index-2.ensures in
    ap is_load_name (sym c.in-Load.is ∙ name)

pub returns-in_default : goal.returns-in_default
returns-in_default g c =
    let name = c.work_name.ensures ∙ planned_name c.args.self.now.board.plan c.args.piece c.args.i c.index.result.now c.requires.piece c.requires.operation c.index.ensures c.index-2.result.now c.index-2.ensures in
    sym (not_load c.work_name.result c.in_default.not-Load) ∙ ap is_load_name name
