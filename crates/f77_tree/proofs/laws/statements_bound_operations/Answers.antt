use Rattle.f77_tree.proofs.OperationBounds.{statements-together, statement-asked, most-asked}
use Rattle.f77_tree.proofs.laws.statements_bound_operations.Goals as goal

pub returns-clause-parts : goal.returns-clause-parts
returns-clause-parts c = statements-together

pub returns-clause-statement : goal.returns-clause-statement
returns-clause-statement c = statement-asked

pub returns-clause-most : goal.returns-clause-most
returns-clause-most c = most-asked
