use Rattle.std.proofs.Common.{subst}
use Rattle.f77_tree.specs.declared.expressions.Expr.{Expr}
use Rattle.f77_tree.specs.Value.{IsExpression}
use Rattle.f77_tree.proofs.ExpressionLemmas.{IsExpression-arity, IsExpression-operands}
use Rattle.sure_traps.proofs.expressions.operands_fit.Goals as goal

pub returns-clause-as_many : goal.returns-clause-as_many
returns-clause-as_many c = IsExpression-arity c.args.names.now c.args.op c.args.args.now (subst (λ (e : Expr). IsExpression c.args.names.now e) c.requires.form c.requires.expression)

pub returns-clause-operands : goal.returns-clause-operands
returns-clause-operands c = IsExpression-operands c.args.names.now c.args.op c.args.args.now (subst (λ (e : Expr). IsExpression c.args.names.now e) c.requires.form c.requires.expression)
