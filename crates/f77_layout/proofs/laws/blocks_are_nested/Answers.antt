use Rattle.f77_layout.proofs.BlockDepths.{depth}
use Rattle.f77_layout.proofs.laws.blocks_are_nested.Goals as goal

pub returns-clause-within : goal.returns-clause-within
returns-clause-within c = λ stmts checked p laid i s at. (depth stmts checked p laid i s at).within

pub returns-clause-closed : goal.returns-clause-closed
returns-clause-closed c = λ stmts checked p laid i s at. (depth stmts checked p laid i s at).closed
