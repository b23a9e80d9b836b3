use Rattle.std.proofs.Common.{◌/◌, ◌%◌, ◌<◌, length, arith, ap, ◌∙◌}
use Rattle.const_prop.proofs.EdgeSetLemmas.{block_holds-read}
use Rattle.const_prop.proofs.edge_set.EdgeSet.holds.Goals as goal

pub returns : goal.returns
returns c =
    let within : c.args.edge / 64 < length c.self.inside.blocks.items = omega (arith, ap length c.self.view_is) in
    rw (← c.self.view_is) (c.holds.ensures.member ∙ block_holds-read c.self.inside.blocks.items (c.args.edge / 64) (c.args.edge % 64) c.index.result.now within c.index.ensures)
