use Rattle.std.proofs.Common.{◌≡◌, ◌++◌, ◌-◌, ◌*◌, length, reverse}
use Rattle.graph_pictures.specs.FlowDot.{boxes_of, nested}
use Rattle.graph_pictures.proofs.boxes.steps_of.Given as goal

abbrev pub invariant-loop : goal.invariant-loop
invariant-loop l = l.steps.items ++ nested l.flow (length l.flow.regions.items * 2 - l.counter) (reverse l.waiting.items) ≡ boxes_of l.flow
