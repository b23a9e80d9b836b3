use Rattle.std.proofs.Common.{inl, inr, ⊎_elim}
use Rattle.op_table.specs.declared.Op.TheVariants.{Bound}
use Rattle.op_table.specs.Known.{MayBeBelow}
use Rattle.op_table.proofs.Trapping.{through, three_can, bound_can, true-false}
use Rattle.op_table.proofs.risks.offset.Goals as goal

pub returns-then-may_be_below : goal.returns-then-may_be_below
returns-then-may_be_below c =
    let can = through (bound_can c.args.v c.args.low c.args.high) (three_can Bound c.args.v c.args.low c.args.high) in
    (λ e. can.0 (inl (c.may_be_below.ensures.0 e)), λ t. c.if-may_be_below.true)

pub returns-else-may_be_below : goal.returns-else-may_be_below
returns-else-may_be_below c =
    let can = through (bound_can c.args.v c.args.low c.args.high) (three_can Bound c.args.v c.args.low c.args.high) in (
      λ e. can.0 (inr (c.may_be_below-else-may_be_below.ensures.0 e)),
      λ t. ⊎_elim
          (λ (m : MayBeBelow c.args.v c.args.low). true-false (c.may_be_below.ensures.1 m) c.if-may_be_below.false)
          (λ (m : MayBeBelow c.args.high c.args.v). c.may_be_below-else-may_be_below.ensures.1 m)
          (can.1 t),
    )
