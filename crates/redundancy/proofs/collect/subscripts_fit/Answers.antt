use Rattle.std.proofs.Common.{subst}
use Rattle.f77_tree.specs.Value.{IsExpression}
use Rattle.redundancy.proofs.Operands.{IsExpression-subscripts}
use Rattle.redundancy.proofs.collect.subscripts_fit.Goals as goal

pub returns : goal.returns
returns c = IsExpression-subscripts c.args.names.now c.args.access.now (subst (IsExpression c.args.names.now) c.requires.form c.requires.expression)
