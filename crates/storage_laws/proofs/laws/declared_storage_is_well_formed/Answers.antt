use Rattle.storage_laws.proofs.DeclaredPrograms.{program-AreDeclarations}
use Rattle.storage_laws.proofs.PlacedDeclared.{program-ArePlaces}
use Rattle.storage_laws.proofs.laws.declared_storage_is_well_formed.Goals as goal

pub returns : goal.returns
returns c = λ stmts checked source none. record { declarations = program-AreDeclarations stmts checked source none; places = program-ArePlaces stmts source none checked }
