use Rattle.cycle_equiv.proofs.NamedEdges.{IsNamed}
use Rattle.cycle_equiv.proofs.naming.numbered.Given as goal

abbrev pub invariant-loop-e : goal.invariant-loop-e
invariant-loop-e l = IsNamed l.tops l.sizes l.e l.names.keys l.classes.items
