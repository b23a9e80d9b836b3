use Rattle.std.proofs.Common.{◌≡◌, ◌++◌, drop}
use Rattle.graph_dependences.specs.Waiting.{value_ways}
use Rattle.graph_dependences.proofs.all_ways.add_values.Given as goal

abbrev pub invariant-loop-value : goal.invariant-loop-value
invariant-loop-value l = l.ways.items ++ value_ways (drop l.value-index l.values) ≡ l.fn.ways.items ++ value_ways l.values
