use Rattle.std.proofs.Common.{◌≡◌, rules, sym, ap, ◌∙◌}
use Rattle.f77_tree.specs.declared.statements.Stmt.TheVariants.{ThenIf}
use Rattle.f77_tree.specs.StatementGrammar.{is_of_subroutines}
use Rattle.f77_tree.proofs.Subroutines.{guarded_subroutines}
use Rattle.f77_source.proofs.listed.+is_of_subroutines.Goals as goal

pub returns-in-ThenIf : goal.returns-in-ThenIf
returns-in-ThenIf t c =
    let inner : c.is_of_subroutines.result ≡ is_of_subroutines c.in-ThenIf.inner = search rules in
    let whole : c.args.stmt.now ≡ ThenIf c.in-ThenIf.field-0 c.in-ThenIf.inner = search rules in
    inner ∙ sym (guarded_subroutines c.in-ThenIf.field-0 c.in-ThenIf.inner) ∙ ap is_of_subroutines (sym whole)
