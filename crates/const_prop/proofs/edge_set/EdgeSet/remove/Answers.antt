use Rattle.std.proofs.Common.{◌/◌, ◌%◌, ◌<◌, length, arith, ap}
use Rattle.const_prop.proofs.EdgeSetLemmas.{edge_holds-less, without_place}
use Rattle.const_prop.proofs.edge_set.EdgeSet.remove.Goals as goal

pub returns-clause-holds : goal.returns-clause-holds
returns-clause-holds c =
    let within : c.args.edge / 64 < length c.self.inside.blocks.items = omega (arith, ap length c.self.view_is) in
    rw (← c.self.view_is)
    (edge_holds-less c.self.inside.blocks.items c.args.edge c.index.result.now c.difference.result within c.index.ensures
    (without_place c.index.result.now c.empty.result c.with.result c.difference.result (c.args.edge % 64) c.empty.ensures c.with.ensures c.difference.ensures))
