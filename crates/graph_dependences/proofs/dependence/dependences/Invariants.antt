use Rattle.std.proofs.Common.{[]}
use Rattle.graph_dependences.specs.Added.{Adds, Below}
use Rattle.graph_dependences.specs.Dependences.{DependsBy}
use Rattle.graph_dependences.proofs.dependence.dependences.Given as goal

abbrev pub invariant-loop-line : goal.invariant-loop-line
invariant-loop-line l = Adds [] l.all.items (Below (DependsBy l.graph l.flow) l.line)
