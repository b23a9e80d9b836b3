use Rattle.std.proofs.Common.{arith}
use Rattle.storage_association.proofs.Cutting.{size-next}
use Rattle.storage_association.proofs.sizes.size_of.Goals as goal

pub loop-dim-preserved : goal.loop-dim-preserved
loop-dim-preserved c = record {
  cut = omega arith;
  size = size-next c.args.dims.now c.loop-dim.dim-index c.loop-dim.size c.min-size.result _ c.extent.result c.loop-dim-test.true c.extent.ensures.value c.min-size.ensures c.loop-dim.invariant.size;
}
