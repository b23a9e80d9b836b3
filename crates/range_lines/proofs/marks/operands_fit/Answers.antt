use Rattle.std.proofs.Common.{subst}
use Rattle.f77_tree.specs.declared.expressions.Expr.{Expr}
use Rattle.f77_tree.specs.Value.{IsExpression}
use Rattle.f77_tree.proofs.ExpressionLemmas.{IsExpression-operands}
use Rattle.range_lines.proofs.marks.operands_fit.Goals as goal

pub returns : goal.returns
returns c = IsExpression-operands c.args.names.now c.args.op c.args.args.now (subst (λ (e : Expr). IsExpression c.args.names.now e) c.requires.form c.requires.expression)
