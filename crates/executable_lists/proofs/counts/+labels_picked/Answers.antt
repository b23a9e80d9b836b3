use Rattle.std.proofs.Common.{◌≡◌, rules, sym, ap, ◌∙◌}
use Rattle.f77_tree.specs.declared.statements.Stmt.TheVariants.{ThenIf}
use Rattle.layout_rules.specs.Counts.{labels_picked as spec_labels_picked}
use Rattle.control_structure.proofs.OwnExecutables.{guarded_labels}
use Rattle.executable_lists.proofs.counts.+labels_picked.Goals as goal

pub returns-in-ThenIf : goal.returns-in-ThenIf
returns-in-ThenIf t c =
    let inner : c.labels_picked.result ≡ spec_labels_picked c.in-ThenIf.inner = search rules in
    let whole : c.args.stmt.now ≡ ThenIf c.in-ThenIf.field-0 c.in-ThenIf.inner = search rules in
    inner ∙ sym (guarded_labels c.in-ThenIf.field-0 c.in-ThenIf.inner) ∙ ap spec_labels_picked (sym whole)
