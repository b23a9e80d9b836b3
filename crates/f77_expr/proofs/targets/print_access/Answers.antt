use Rattle.std.proofs.Common.{◌≡◌, sym, ap}
use Rattle.f77_tree.specs.declared.expressions.Expr.{Read}
use Rattle.f77_tree.specs.Grammar.{spelling}
use Rattle.f77_expr.specs.Operands.{access_at}
use Rattle.f77_expr.specs.Printing.{Printed, printed_text}
use Rattle.f77_expr.proofs.Appends.{appended_is, appended_all}
use Rattle.f77_expr.proofs.PrintedItems.{printed-Read, subscripts_of}
use Rattle.f77_expr.proofs.targets.print_access.Goals as goal

pub print_element-requires : goal.print_element-requires
print_element-requires c = subscripts_of c.args.p.now.names c.args.access.now c.requires

pub returns-clause-text : goal.returns-clause-text
returns-clause-text c =
    let names = c.args.p.now.names in
    let access = c.args.access.now in
    let same : spelling (access_at names access).alone ≡ printed_text names (Read access) = ap (λ (p : Printed). spelling p.alone) (sym (printed-Read names access)) in
    appended_all c.args.out.now.items (printed_text names (Read access)) c.print_element.new.out.items c.print_element.result (appended_is _ _ _ _ c.print_element.result same c.print_element.ensures.text)
