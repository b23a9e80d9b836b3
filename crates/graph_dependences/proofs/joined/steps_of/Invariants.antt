use Rattle.std.proofs.Common.{◌≡◌, ◌++◌, drop}
use Rattle.graph_dependences.specs.Joined.{steps_of}
use Rattle.graph_dependences.proofs.joined.steps_of.Given as goal

abbrev pub invariant-loop-way : goal.invariant-loop-way
invariant-loop-way l = l.steps.items ++ steps_of l.first l.last (drop l.way-index l.ways) ≡ steps_of l.first l.last l.ways
