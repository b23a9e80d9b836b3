use Rattle.std.proofs.Common.{◌≡◌, take, ◌++◌}
use Rattle.program_units.specs.CallTable.{callees}
use Rattle.unit_checks.specs.CallGraph.{edges_from}
use Rattle.unit_checks.proofs.recursion.add_calls.Given as goal

abbrev pub invariant-loop-s : goal.invariant-loop-s
invariant-loop-s l = l.graph ≡ record { nodes = l.initial.graph.nodes; edges = l.initial.graph.edges ++ edges_from l.k (callees l.us (take l.s-index l.unit)) }
