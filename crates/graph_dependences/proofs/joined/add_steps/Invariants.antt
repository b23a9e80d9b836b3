use Rattle.std.proofs.Common.{◌≡◌, ◌++◌, drop}
use Rattle.graph_dependences.specs.Joined.{step_edges}
use Rattle.graph_dependences.proofs.joined.add_steps.Given as goal

abbrev pub invariant-loop-step : goal.invariant-loop-step
invariant-loop-step l = record {
  nodes : l.joined.nodes ≡ l.fn.joined.nodes;
  edges : l.joined.edges ++ step_edges (drop l.step-index l.steps) ≡ l.fn.joined.edges ++ step_edges l.steps;
}
