use Rattle.std.proofs.Common.{subst, ap, ◌∙◌}
use Rattle.f77_tree.specs.declared.expressions.Expr.{Expr}
use Rattle.f77_tree.specs.Operations.{operations}
use Rattle.f77_tree.specs.Value.{IsExpression}
use Rattle.f77_tree.proofs.ExpressionLemmas.{IsExpression-access}
use Rattle.f77_tree.proofs.OperationLaws.{operations-Read}
use Rattle.operation_lists.proofs.expressions.access_fits.Goals as goal

pub returns-clause-access : goal.returns-clause-access
returns-clause-access c = IsExpression-access c.args.p.now.names c.args.a.now (subst (λ (e : Expr). IsExpression c.args.p.now.names e) c.requires.form c.requires.expression)

pub returns-clause-count : goal.returns-clause-count
returns-clause-count c = ap operations c.requires.form ∙ operations-Read c.args.a.now
