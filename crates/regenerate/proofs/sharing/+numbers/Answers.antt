use Rattle.std.proofs.Common.{◌≡◌, ◌++◌, List, sym, ap, subst, ◌∙◌}
use Rattle.std.specs.Prelude.{OnOk}
use Rattle.f77_tree.specs.declared.expressions.Expr.{Expr}
use Rattle.shared_forms.specs.Numbered.{numbers_in, parts}
use Rattle.shared_forms.proofs.NumberLemmas.{parts-Read, parts-Apply}
use Rattle.regenerate.proofs.sharing.+numbers.Goals as goal

pub append_parts-returns-in-Read : goal.append_parts-returns-in-Read
append_parts-returns-in-Read t c =
    subst
    (λ (es : List Expr). OnOk c.append_all_numbers.result (c.append_all_numbers.new.found.items ≡ c.args.found.now.items ++ numbers_in c.args.a.now.candidates es))
    (sym (parts-Read c.in-Read.access) ∙ ap parts (sym c.in-Read.is))
    c.append_all_numbers.ensures

pub append_parts-returns-in-Apply : goal.append_parts-returns-in-Apply
append_parts-returns-in-Apply t c =
    subst
    (λ (es : List Expr). OnOk c.append_all_numbers-in-Apply.result (c.append_all_numbers-in-Apply.new.found.items ≡ c.args.found.now.items ++ numbers_in c.args.a.now.candidates es))
    (sym (parts-Apply c.in-Apply.field-0 c.in-Apply.args) ∙ ap parts (sym c.in-Apply.is))
    c.append_all_numbers-in-Apply.ensures
