use Rattle.std.proofs.Common.{subst}
use Rattle.f77_tree.specs.declared.expressions.Expr.{Expr}
use Rattle.f77_tree.specs.Value.{IsExpression}
use Rattle.const_prop.proofs.Expressions.{IsExpression-access}
use Rattle.const_prop.proofs.known_values.access_fits.Goals as goal

pub returns : goal.returns
returns c = IsExpression-access c.args.names.now c.args.a.now (subst (λ (e : Expr). IsExpression c.args.names.now e) c.requires.form c.requires.expression)
