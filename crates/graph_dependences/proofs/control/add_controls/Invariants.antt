use Rattle.std.proofs.Common.{◌≡◌}
use Rattle.graph_dependences.specs.Added.{Adds, Below}
use Rattle.graph_dependences.specs.Dependences.{DependsOnSome}
use Rattle.graph_dependences.proofs.control.add_controls.Given as goal

abbrev pub invariant-loop-piece : goal.invariant-loop-piece
invariant-loop-piece l = record {
  number : l.number ≡ l.piece-index;
  added : Adds l.fn.all.items l.all.items (Below (DependsOnSome l.flow) l.number);
}
