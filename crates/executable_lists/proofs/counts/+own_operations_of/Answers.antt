use Rattle.std.proofs.Common.{◌≡◌, rules, arith, ap, ◌∙◌}
use Rattle.f77_tree.specs.Operations.{operations}
use Rattle.control_structure.specs.Counted.{counted}
use Rattle.control_structure.specs.OwnOperations.{own_operations}
use Rattle.layout_rules.specs.Resolved.{resolved}
use Rattle.control_structure.proofs.OwnExecutables.{guarded_operations}
use Rattle.executable_lists.proofs.counts.+own_operations_of.Goals as goal

pub returns-in-ThenIf : goal.returns-in-ThenIf
returns-in-ThenIf t c checked =
    let names = c.args.names.now in
    let same : c.get.result.now ≡ c.in-ThenIf.inner = search rules in
    let inner : c.own_operations_of.result ≡ counted (own_operations names checked c.in-ThenIf.inner) = c.own_operations_of.ensures checked ∙ ap (λ s. counted (own_operations names checked s)) same in
    let condition : c.operations_of-in-ThenIf.result ≡ counted (operations (resolved names checked c.in-ThenIf.condition)) = c.operations_of-in-ThenIf.ensures checked in
    let whole = ap (own_operations names checked) c.in-ThenIf.is ∙ guarded_operations names checked c.in-ThenIf.condition c.in-ThenIf.inner in
    let one = c.saturating_add-in-ThenIf.ensures in
    let two = c.saturating_add-in-ThenIf-2.ensures in
    omega (arith, inner, condition, whole, one, two)
