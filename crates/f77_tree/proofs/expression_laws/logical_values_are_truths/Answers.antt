use Rattle.op_table.specs.Words.{is_true}
use Rattle.f77_tree.proofs.LogicalValues.{value-truth, truth-or}
use Rattle.f77_tree.proofs.expression_laws.logical_values_are_truths.Goals as goal

pub returns-clause-two : goal.returns-clause-two
returns-clause-two c = λ names store next e z is at. truth-or (is_true z) z (value-truth names store next e z is at)

pub returns-clause-same : goal.returns-clause-same
returns-clause-same c = value-truth
