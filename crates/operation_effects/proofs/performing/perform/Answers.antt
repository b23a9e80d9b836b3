use Rattle.std.proofs.Common.{◌∙◌}
use Rattle.f77_meaning.specs.Storage.{memory_of}
use Rattle.operation_effects.proofs.TaskEffects.{task_effect}
use Rattle.operation_effects.proofs.performing.perform.Goals as goal

pub returns-clause-effect : goal.returns-clause-effect
returns-clause-effect c = λ work is. task_effect c.args.p.now.names c.args.input.now.items (memory_of c.args.s.now) work c.args.task c.args.args.now is c.requires.operands ∙ c.perform_task.ensures.effect
