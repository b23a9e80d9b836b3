use Rattle.std.proofs.Common.{◌≡◌, ◌<◌, ℕ}
use Rattle.graph_dependences.specs.Waiting.{WaitsAt}
use Rattle.graph_dependences.proofs.waiting.waits_on.Given as goal

abbrev pub invariant-loop-two : goal.invariant-loop-two
invariant-loop-two l = record {
  second : l.second ≡ l.two-index;
  none : (i : ℕ) → i < l.second → WaitsAt l.over.graph.now l.over.flow.now l.over.first l.over.second l.over.turned l.first i → ⊥;
}
