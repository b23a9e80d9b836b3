use Rattle.std.proofs.Common.{◌≡◌, IfSome}
use Rattle.graph_dependences.specs.Added.{Adds, Below}
use Rattle.graph_dependences.specs.By.{IsKnown}
use Rattle.graph_dependences.specs.Dependences.{DependsAt}
use Rattle.graph_dependences.proofs.pairs.add_on.Given as goal

abbrev pub invariant-loop-two : goal.invariant-loop-two
invariant-loop-two l = record {
  second : l.second ≡ l.two-index;
  known : IfSome l.known (IsKnown l.by l.first);
  added : Adds l.fn.all.items l.all.items (Below (DependsAt l.by.graph.now l.by.flow.now l.by.line l.first) l.second);
}
