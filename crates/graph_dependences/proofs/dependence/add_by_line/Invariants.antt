use Rattle.std.proofs.Common.{◌≡◌}
use Rattle.graph_dependences.specs.Added.{Adds, Below}
use Rattle.graph_dependences.specs.Dependences.{DependsOn}
use Rattle.graph_dependences.proofs.dependence.add_by_line.Given as goal

abbrev pub invariant-loop-one : goal.invariant-loop-one
invariant-loop-one l = record {
  first : l.first ≡ l.one-index;
  added : Adds l.fn.all.items l.all.items (Below (DependsOn l.graph l.flow l.line) l.first);
}
