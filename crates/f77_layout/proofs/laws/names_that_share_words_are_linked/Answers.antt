use Rattle.std.proofs.Common.{subst}
use Rattle.storage_laws.proofs.PlacedDeclared.{program-shared}
use Rattle.f77_layout.specs.Laid.{SharesWhereLinked}
use Rattle.f77_layout.proofs.LaidFacts.{laid-faultless, laid-program}
use Rattle.f77_layout.proofs.laws.names_that_share_words_are_linked.Goals as goal

pub returns : goal.returns
returns c = λ stmts checked p is. subst SharesWhereLinked (laid-program stmts checked p is.laid) (program-shared stmts is.source (laid-faultless stmts checked p is.laid).stored checked)
