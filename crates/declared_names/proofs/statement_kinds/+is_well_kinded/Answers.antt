use Rattle.std.proofs.Common.{rules, ◌≡◌, ◌&&◌, Bool, true, false, sym, ap, ◌∙◌}
use Rattle.f77_tree.specs.declared.declarations.Kind.TheVariants.{Logical}
use Rattle.f77_tree.specs.declared.statements.Stmt.TheVariants.{ThenIf}
use Rattle.layout_rules.specs.Types.{is_well_kinded, is_of_kind}
use Rattle.declared_names.proofs.StatementKinds.{guarded_kinds}
use Rattle.declared_names.proofs.statement_kinds.+is_well_kinded.Goals as goal

pub returns-then-is_of_kind : goal.returns-then-is_of_kind
returns-then-is_of_kind t c =
    let names = c.args.names.now in
    let condition = c.in-ThenIf.condition in
    let inner = c.in-ThenIf.inner in
    let tested : is_of_kind names Logical condition ≡ true = search rules in
    let rest : c.is_well_kinded.result ≡ is_well_kinded names inner = search rules in
    let whole : c.args.stmt.now ≡ ThenIf condition inner = search rules in
    rest ∙ ap (λ (b : Bool). b && is_well_kinded names inner) (sym tested) ∙ sym (guarded_kinds names condition inner) ∙ ap (is_well_kinded names) (sym whole)

pub returns-else-is_of_kind : goal.returns-else-is_of_kind
returns-else-is_of_kind t c =
    let names = c.args.names.now in
    let condition = c.in-ThenIf.condition in
    let inner = c.in-ThenIf.inner in
    let tested : is_of_kind names Logical condition ≡ false = search rules in
    let is : c.is_of_kind-in-ThenIf.result ≡ false = search rules in
    let whole : c.args.stmt.now ≡ ThenIf condition inner = search rules in
    is ∙ ap (λ (b : Bool). b && is_well_kinded names inner) (sym tested) ∙ sym (guarded_kinds names condition inner) ∙ ap (is_well_kinded names) (sym whole)
