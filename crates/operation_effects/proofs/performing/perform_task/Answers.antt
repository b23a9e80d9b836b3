use Rattle.operation_effects.proofs.TaskEffects.{line_some}
use Rattle.operation_effects.proofs.performing.perform_task.Goals as goal

pub returns-in-Write-clause-line : goal.returns-in-Write-clause-line
returns-in-Write-clause-line c = λ empty. line_some c.args.p.now.names c.in-Write.items.now c.args.args.now c.write_values.new.line.items c.write_values.ensures.line empty
