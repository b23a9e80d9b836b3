use Rattle.std.proofs.Common.{◌≡◌, ◌∙◌, subst, sym}
use Rattle.f77_tree.specs.declared.expressions.Expr.{Expr}
use Rattle.f77_tree.specs.Grammar.{Arguments}
use Rattle.f77_tree.specs.Kinds.{IsProper}
use Rattle.f77_expr.specs.Appending.{listed_in}
use Rattle.f77_expr.specs.Printing.{printed}
use Rattle.f77_expr.proofs.PrintedLists.{listed_alone}
use Rattle.f77_expr.proofs.extremes.Extreme.operands.Goals as goal

pub returns-else-is : goal.returns-else-is
returns-else-is c = λ names proper.
    let P : Expr → Type 0 = λ e. IsProper names e → listed_in c.args.self (printed names e) ≡ Arguments.last (printed names e).alone in
    subst P (sym c.in-Apply.is) (listed_alone c.args.self c.in-Apply.op c.in-Apply.args names (sym c.is.ensures ∙ c.if-is.false)) proper
