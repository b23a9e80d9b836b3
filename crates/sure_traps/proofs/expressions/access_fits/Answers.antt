use Rattle.std.proofs.Common.{subst}
use Rattle.f77_tree.specs.declared.expressions.Expr.{Expr}
use Rattle.f77_tree.specs.Value.{IsExpression}
use Rattle.f77_tree.proofs.ExpressionLemmas.{IsExpression-access}
use Rattle.sure_traps.proofs.expressions.access_fits.Goals as goal

pub returns : goal.returns
returns c = IsExpression-access c.args.names.now c.args.a.now (subst (λ (e : Expr). IsExpression c.args.names.now e) c.requires.form c.requires.expression)
