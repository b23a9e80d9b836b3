use Rattle.std.proofs.Common.{◌≡◌}
use Rattle.graph_dependences.specs.Waiting.{line_ways}
use Rattle.graph_dependences.proofs.all_ways.all_ways.Given as goal

abbrev pub invariant-loop-line : goal.invariant-loop-line
invariant-loop-line l = l.ways.items ≡ line_ways l.graph l.flow l.line
