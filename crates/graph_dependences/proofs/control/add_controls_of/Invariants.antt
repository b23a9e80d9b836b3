use Rattle.std.proofs.Common.{◌≡◌}
use Rattle.graph_dependences.specs.Added.{Adds, Below}
use Rattle.graph_dependences.specs.Dependences.{DependsOnDecision}
use Rattle.graph_dependences.proofs.control.add_controls_of.Given as goal

abbrev pub invariant-loop-decision : goal.invariant-loop-decision
invariant-loop-decision l = record {
  first : l.first ≡ l.decision-index;
  added : Adds l.fn.all.items l.all.items (Below (DependsOnDecision l.flow l.second) l.first);
}
