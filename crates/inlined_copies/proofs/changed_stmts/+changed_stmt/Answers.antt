use Rattle.std.proofs.Common.{◌≡◌, sym, ap, ◌∙◌}
use Rattle.f77_tree.specs.declared.statements.RawExpr.{RawExpr}
use Rattle.f77_tree.specs.declared.statements.Stmt.{Stmt}
use Rattle.f77_tree.specs.declared.statements.Stmt.TheVariants.{ThenIf}
use Rattle.program_units.specs.Copies.{changed, changed_stmt}
use Rattle.inlined_copies.specs.Changes.{changes_of}
use Rattle.inlined_copies.proofs.ChangedRows.{changed_stmt-ThenIf}
use Rattle.inlined_copies.proofs.changed_stmts.+changed_stmt.Goals as goal

pub returns-in_ok-new-in-ThenIf : goal.returns-in_ok-new-in-ThenIf
returns-in_ok-new-in-ThenIf t c =
    let change = changes_of c.args.c.now in
    let made : c.in_ok-new-in-ThenIf.field-0 ≡ changed_stmt change c.in-ThenIf.stmt = c.in_ok-new-in-ThenIf.ensures ∙ c.in_ok-stmt-in-ThenIf.ensures ∙ ap (changed_stmt change) c.get.ensures in
    ap (λ (x : RawExpr). ThenIf x c.in_ok-new-in-ThenIf.field-0) c.in_ok-cond-in-ThenIf.ensures
    ∙ ap (λ (x : Stmt). ThenIf (changed change c.in-ThenIf.cond) x) made
    ∙ sym (changed_stmt-ThenIf change c.in-ThenIf.cond c.in-ThenIf.stmt)
    ∙ ap (changed_stmt change) (sym c.in-ThenIf.is)
