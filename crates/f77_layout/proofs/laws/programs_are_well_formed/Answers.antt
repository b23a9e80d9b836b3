use Rattle.f77_layout.proofs.WellFormedPrograms.{laid-well_formed, laid-few_operations}
use Rattle.f77_layout.proofs.laws.programs_are_well_formed.Goals as goal

pub returns-clause-well_formed : goal.returns-clause-well_formed
returns-clause-well_formed c = λ stmts checked p source laid. laid-well_formed stmts checked source p laid

pub returns-clause-modest : goal.returns-clause-modest
returns-clause-modest c = λ stmts checked p source laid. laid-few_operations stmts checked source p laid
