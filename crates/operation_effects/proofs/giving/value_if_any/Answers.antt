use Rattle.std.proofs.Common.{w32, ◌∙◌, arith, rules}
use mir.Val.{SFits}
use Rattle.std.proofs.lemmas.Int.{to_z-of_z}
use Rattle.operation_effects.proofs.OperandReading.{none_there, value_there}
use Rattle.operation_effects.proofs.giving.value_if_any.Goals as goal

pub returns-then-k-operands : goal.returns-then-k-operands
returns-then-k-operands c =
    let fits : SFits w32 c.operand_value.result = search rules in
    to_z-of_z w32 c.operand_value.result fits ∙ c.operand_value.ensures ∙ value_there c.args.values.now c.args.operands.now c.args.k _ c.if-k-operands.true

pub returns-else-k-operands : goal.returns-else-k-operands
returns-else-k-operands c = let past = c.if-k-operands.false in none_there c.args.values.now c.args.operands.now c.args.k (omega (arith, past))
