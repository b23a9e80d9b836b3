use Rattle.redundancy.proofs.Bits.{after_bit}
use Rattle.redundancy.proofs.solve.after.Goals as goal

pub returns : goal.returns
returns c = λ k within. after_bit c.args.computes c.args.kills c.args.missing k c.ranges.computes.fits within
