use Rattle.std.proofs.Common.{◌/◌, ◌<◌, length, arith, ap}
use Rattle.const_prop.proofs.EdgeSetLemmas.{edge_holds-more}
use Rattle.const_prop.proofs.edge_set.EdgeSet.insert.Goals as goal

pub returns-clause-holds : goal.returns-clause-holds
returns-clause-holds c =
    let within : c.args.edge / 64 < length c.self.inside.blocks.items = omega (arith, ap length c.self.view_is) in
    rw (← c.self.view_is)
    (edge_holds-more c.self.inside.blocks.items c.args.edge c.index_mut.result.now c.insert.new.self within c.index_mut.ensures.value c.insert.ensures)
