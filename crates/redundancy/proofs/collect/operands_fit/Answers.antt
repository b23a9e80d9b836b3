use Rattle.std.proofs.Common.{subst}
use Rattle.f77_tree.specs.Value.{IsExpression}
use Rattle.redundancy.proofs.Operands.{IsExpression-operands, IsExpression-arity}
use Rattle.redundancy.proofs.collect.operands_fit.Goals as goal

pub returns-clause-expressions : goal.returns-clause-expressions
returns-clause-expressions c = IsExpression-operands c.args.names.now c.args.op c.args.args.now (subst (IsExpression c.args.names.now) c.requires.form c.requires.expression)

pub returns-clause-arity : goal.returns-clause-arity
returns-clause-arity c = IsExpression-arity c.args.names.now c.args.op c.args.args.now (subst (IsExpression c.args.names.now) c.requires.form c.requires.expression)
