use Rattle.std.proofs.Common.{◌≡◌, ◌<◌, ℕ}
use Rattle.graph_dependences.specs.Waiting.{WaitsOn}
use Rattle.graph_dependences.proofs.waiting.waits_for.Given as goal

abbrev pub invariant-loop-one : goal.invariant-loop-one
invariant-loop-one l = record {
  first : l.first ≡ l.one-index;
  none : (i : ℕ) → i < l.first → WaitsOn l.over.graph.now l.over.flow.now l.over.first l.over.second l.over.turned i → ⊥;
}
