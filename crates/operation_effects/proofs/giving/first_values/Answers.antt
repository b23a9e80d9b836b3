use Rattle.std.proofs.Common.{w32, ◌∙◌, rules}
use mir.Val.{SFits}
use Rattle.std.proofs.lemmas.Int.{to_z-of_z}
use Rattle.operation_effects.proofs.OperandReading.{three_read}
use Rattle.operation_effects.proofs.giving.first_values.Goals as goal

pub returns : goal.returns
returns c =
    let first : SFits w32 c.value_if_any.result = search rules in
    let second : SFits w32 c.value_if_any-2.result = search rules in
    let third : SFits w32 c.value_if_any-3.result = search rules in
    three_read c.args.values.now c.args.operands.now _ _ _ c.requires.few (to_z-of_z w32 c.value_if_any.result first ∙ c.value_if_any.ensures) (to_z-of_z w32 c.value_if_any-2.result second ∙ c.value_if_any-2.ensures) (to_z-of_z w32 c.value_if_any-3.result third ∙ c.value_if_any-3.ensures)
