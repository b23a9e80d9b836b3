use Rattle.std.proofs.Common.{ap, sym, subst, ◌∙◌, map}
use Rattle.std.proofs.lemmas.List.{length-map}
use Rattle.f77_tree.specs.Grammar.{level}
use Rattle.f77_tree.specs.Kinds.{IsProper}
use Rattle.f77_expr.specs.Printing.{Printed, printed}
use Rattle.f77_expr.proofs.PrintedItems.{printed-Apply, operands_of}
use Rattle.f77_expr.proofs.PrintedTexts.{level-operator}
use Rattle.f77_expr.proofs.print.level_of.Goals as goal

pub returns-in-Apply : goal.returns-in-Apply
returns-in-Apply c = λ names proper.
    let op = c.in-Apply.op in
    let args = c.in-Apply.field-1 in
    let is = operands_of names op args (subst (IsProper names) c.in-Apply.is proper) in
    let same = printed-Apply names op args in
    c.printed_level.ensures ∙ level-operator op (map (printed names) args) is.written (length-map args (printed names) ∙ is.as_many) ∙ ap (λ (p : Printed). level p.alone) (sym same ∙ ap (printed names) (sym c.in-Apply.is))
