use Rattle.std.proofs.Common.{◌∙◌, arith}
use Rattle.operation_tables.proofs.PlannedOperations.{inside_operations, planned_name}
use Rattle.operation_tables.proofs.graph.OpGraph.name_of.Goals as goal

pub index-requires-2 : goal.index-requires-2
index-requires-2 g c =
    let low = inside_operations c.args.self.now.plan c.args.piece c.args.i c.index.result.now c.requires.piece c.requires.operation c.index.ensures in
    omega (arith, low)

pub returns : goal.returns
returns g c =
    c.work_name.ensures ∙ planned_name c.args.self.now.plan c.args.piece c.args.i c.index.result.now c.requires.piece c.requires.operation c.index.ensures c.index-2.result.now c.index-2.ensures
