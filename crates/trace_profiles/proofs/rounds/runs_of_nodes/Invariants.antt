use Rattle.std.proofs.Common.{◌≡◌, ◌≤◌, ◌++◌, None, drop}
use Rattle.trace_profiles.specs.Rounds.{runs_from}
use Rattle.trace_profiles.proofs.rounds.runs_of_nodes.Given as goal

abbrev pub invariant-loop-node : goal.invariant-loop-node
invariant-loop-node l = record {
  few : l.number ≤ l.node-index;
  told : l.runs.items ++ runs_from l.last l.number (drop l.node-index l.nodes) ≡ runs_from None 0 l.nodes;
}
