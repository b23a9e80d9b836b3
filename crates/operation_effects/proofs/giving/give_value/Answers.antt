use Rattle.std.proofs.Common.{◌≡◌, ℤ, length, Option, None, Some, sym, ap, ◌∙◌, subst}
use Rattle.std.specs.Prelude.{IfSome, Ok, List}
use Rattle.f77_tree.specs.Execution.{Memory}
use Rattle.f77_tree.specs.declared.programs.NameInfo.{NameInfo}
use Rattle.f77_meaning.specs.Storage.{memory_of}
use Rattle.op_board.specs.Effects.{gives, performed}
use Rattle.op_board.specs.Operations.{Work}
use Rattle.operation_effects.specs.Given.{given_by}
use Rattle.operation_effects.specs.OperandValues.{operand_values}
use Rattle.operation_effects.specs.Tasks.{IsTaskOf, TakesOperands, task_done}
use Rattle.operation_effects.specs.declared.tasks.Task.{Task}
use Rattle.operation_effects.proofs.OperandReading.{value_count}
use Rattle.operation_effects.proofs.TaskEffects.{task_effect}
use Rattle.operation_effects.proofs.giving.give_value.Goals as goal

given : (names : List NameInfo) (m : Memory) (t : Task) (args : List ℤ) → TakesOperands t (length args) → (answer : Option ℤ) → IfSome answer (λ z. (input : List ℤ) → task_done names input m t args ≡ Ok (gives m z)) → IfSome answer (λ z. (input : List ℤ) (work : Work) → IsTaskOf names work t → performed names input m work args ≡ Ok (gives m z))
given names m t args takes None none = tt
given names m t args takes (Some z) does = λ input work is. task_effect names input m work t args is takes ∙ does input

pub returns-clause-effect : goal.returns-clause-effect
returns-clause-effect c =
    let args = operand_values c.args.values.now c.args.operands.now in
    given c.args.p.now.names (memory_of c.args.s.now) c.args.task args (subst (TakesOperands c.args.task) (sym (value_count c.args.values.now c.args.operands.now)) c.requires.operands) c.give_of_task.result c.give_of_task.ensures.effect

pub returns-clause-value : goal.returns-clause-value
returns-clause-value c = λ input work is.
    let names = c.args.p.now.names in
    let m = memory_of c.args.s.now in
    let args = operand_values c.args.values.now c.args.operands.now in
    let takes : TakesOperands c.args.task (length args) = subst (TakesOperands c.args.task) (sym (value_count c.args.values.now c.args.operands.now)) c.requires.operands in
    c.give_of_task.ensures.value input ∙ ap (given_by c.args.task) (sym (task_effect names input m work c.args.task args is takes))
