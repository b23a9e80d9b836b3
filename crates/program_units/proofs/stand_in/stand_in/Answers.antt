use Rattle.std.proofs.Common.{◌≡◌, sym, ap, ◌∙◌}
use Rattle.f77_tree.specs.declared.statements.RawExpr.{RawExpr}
use Rattle.f77_tree.specs.declared.statements.Stmt.{Stmt}
use Rattle.f77_tree.specs.declared.statements.Stmt.TheVariants.{ThenIf}
use Rattle.program_units.specs.Units.{stand_in as stand_in_of, stand_in_alone as stand_in_alone_of}
use Rattle.program_units.proofs.StandingIn.{stand_in-ThenIf}
use Rattle.program_units.proofs.stand_in.stand_in.Goals as goal

pub returns-in_ok-new-in-ThenIf : goal.returns-in_ok-new-in-ThenIf
returns-in_ok-new-in-ThenIf c =
    let made : c.in_ok-new-in-ThenIf.field-0 ≡ stand_in_alone_of c.in-ThenIf.inner = c.in_ok-new-in-ThenIf.ensures ∙ c.in_ok-inner-in-ThenIf.ensures ∙ ap stand_in_alone_of c.get.ensures in
    ap (λ (x : RawExpr). ThenIf x c.in_ok-new-in-ThenIf.field-0) c.in_ok-condition-in-ThenIf.ensures
    ∙ ap (λ (x : Stmt). ThenIf c.in-ThenIf.condition x) made
    ∙ sym (stand_in-ThenIf c.in-ThenIf.condition c.in-ThenIf.inner)
    ∙ ap stand_in_of (sym c.in-ThenIf.is)
