use Rattle.std.proofs.Common.{◌≡◌, ◌+◌, length}
use Rattle.unit_checks.specs.CallGraph.{calls_below_unit}
use Rattle.unit_checks.proofs.recursion.call_graph.Given as goal

abbrev pub invariant-loop-k : goal.invariant-loop-k
invariant-loop-k l = l.graph ≡ record { nodes = length l.us + 1; edges = calls_below_unit l.us l.k }
