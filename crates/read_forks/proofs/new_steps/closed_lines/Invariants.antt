use Rattle.std.proofs.Common.{◌≡◌, map, take}
use Rattle.read_forks.specs.declared.steps.Step.{Step}
use Rattle.read_forks.proofs.new_steps.closed_lines.Given as goal

abbrev pub invariant-loop-k : goal.invariant-loop-k
invariant-loop-k l = l.closed.items ≡ map (λ (step : Step). step.count) (take l.k l.steps)
