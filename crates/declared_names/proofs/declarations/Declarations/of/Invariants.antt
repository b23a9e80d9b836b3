use Rattle.std.proofs.Common.{take}
use Rattle.declared_names.specs.KeptDeclarations.{Tells}
use Rattle.declared_names.proofs.declarations.Declarations.of.Given as goal

abbrev pub invariant-loop-s : goal.invariant-loop-s
invariant-loop-s l = Tells l.declared (take l.s-index l.stmts)
