use Rattle.std.proofs.Common.{◌≡◌, rules, sym, ap, ◌∙◌}
use Rattle.f77_tree.specs.declared.statements.Stmt.TheVariants.{ThenIf}
use Rattle.layout_rules.specs.Counts.{items_taken as spec_items_taken}
use Rattle.control_structure.proofs.OwnExecutables.{guarded_items}
use Rattle.executable_lists.proofs.counts.+items_taken.Goals as goal

pub returns-in-ThenIf : goal.returns-in-ThenIf
returns-in-ThenIf t c =
    let inner : c.items_taken.result ≡ spec_items_taken c.in-ThenIf.inner = search rules in
    let whole : c.args.stmt.now ≡ ThenIf c.in-ThenIf.field-0 c.in-ThenIf.inner = search rules in
    inner ∙ sym (guarded_items c.in-ThenIf.field-0 c.in-ThenIf.inner) ∙ ap spec_items_taken (sym whole)
