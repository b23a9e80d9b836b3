use Rattle.op_table.proofs.Trapping.{never_can, true-false}
use Rattle.op_table.proofs.risks.never.Goals as goal
use Rattle.std.proofs.Common.{refl}

pub returns : goal.returns
returns c = (λ e. true-false e refl, λ t. absurd (never_can c.args.op c.args.known.now c.requires t))
