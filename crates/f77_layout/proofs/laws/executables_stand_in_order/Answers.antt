use Rattle.f77_layout.proofs.LabelsLead.{own-stand, increments-stand}
use Rattle.f77_layout.proofs.laws.executables_stand_in_order.Goals as goal

pub returns-clause-own : goal.returns-clause-own
returns-clause-own c = λ stmts checked p is i s here j kind at. own-stand stmts checked p is.source is.laid i j s kind here at

pub returns-clause-increments : goal.returns-clause-increments
returns-clause-increments c = λ stmts checked p is i s here j kind at. increments-stand stmts checked p is.source is.laid i j s kind here at
