use Rattle.read_back.proofs.PrintedKinds.{printed_kind}
use Rattle.read_back.proofs.PrintedTrees.{printed_tree}
use Rattle.read_back.proofs.expressions.printed_expressions_are_themselves.Goals as goal

pub returns-clause-kind : goal.returns-clause-kind
returns-clause-kind c = λ names e differ free proper. printed_kind names differ free e proper

pub returns-clause-tree : goal.returns-clause-tree
returns-clause-tree c = λ names checked e differ free proper dialect. printed_tree names checked differ free e proper dialect
