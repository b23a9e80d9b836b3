use Rattle.std.proofs.Common.{◌≡◌, ◌++◌, map, reverse, take}
use Rattle.graph_pictures.specs.declared.boxes.Step.TheVariants as step
use Rattle.graph_pictures.proofs.boxes.open.Given as goal

abbrev pub invariant-loop-k : goal.invariant-loop-k
invariant-loop-k l = l.waiting.items ≡ l.initial.waiting.items ++ map step.Open (take l.k (reverse l.regions))
