use Rattle.std.proofs.Common.{subst, ap, ◌∙◌}
use Rattle.f77_tree.specs.declared.expressions.Expr.{Expr}
use Rattle.f77_tree.specs.Value.{IsExpression}
use Rattle.f77_tree.proofs.ExpressionLemmas.{IsExpression-arity, IsExpression-operands}
use Rattle.f77_tree.specs.Operations.{operations}
use Rattle.f77_tree.proofs.OperationLaws.{operations-Apply}
use Rattle.operation_lists.proofs.expressions.operands_fit.Goals as goal

pub returns-clause-as_many : goal.returns-clause-as_many
returns-clause-as_many c = IsExpression-arity c.args.p.now.names c.args.op c.args.args.now (subst (λ (e : Expr). IsExpression c.args.p.now.names e) c.requires.form c.requires.expression)

pub returns-clause-operands : goal.returns-clause-operands
returns-clause-operands c = IsExpression-operands c.args.p.now.names c.args.op c.args.args.now (subst (λ (e : Expr). IsExpression c.args.p.now.names e) c.requires.form c.requires.expression)

pub returns-clause-count : goal.returns-clause-count
returns-clause-count c = ap operations c.requires.form ∙ operations-Apply c.args.op c.args.args.now
