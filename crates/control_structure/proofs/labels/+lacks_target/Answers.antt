use Rattle.std.proofs.Common.{◌≡◌, not, ℕ, List, All, sym, ap, subst, ◌∙◌, arith}
use Rattle.std.specs.List.{list_any}
use Rattle.layout_rules.specs.Labels.{bears, jumps, IsLabel}
use Rattle.control_structure.proofs.Usable.{jumps-ThenIf, guards, guards-ThenIf}
use Rattle.control_structure.proofs.labels.+lacks_target.Goals as goal

pub lacks_target-requires : goal.lacks_target-requires
lacks_target-requires t c =
    let same : jumps c.args.stmt.now ≡ jumps c.get.result.now = ap jumps c.in-ThenIf.is ∙ jumps-ThenIf c.in-ThenIf.field-0 c.in-ThenIf.inner ∙ ap jumps (sym c.get.ensures) in
    let fewer = ap guards c.in-ThenIf.is ∙ guards-ThenIf c.in-ThenIf.field-0 c.in-ThenIf.inner in
    let here = ap guards c.get.ensures in
    (let d = c.decreases in omega (arith, d, fewer, here), (c.requires.once, (c.requires.places, subst (λ (labels : List ℕ). All IsLabel labels) same c.requires.targets)))

pub returns-in-ThenIf : goal.returns-in-ThenIf
returns-in-ThenIf t c =
    let same : jumps c.args.stmt.now ≡ jumps c.get.result.now = ap jumps c.in-ThenIf.is ∙ jumps-ThenIf c.in-ThenIf.field-0 c.in-ThenIf.inner ∙ ap jumps (sym c.get.ensures) in
    c.lacks_target.ensures ∙ ap (list_any (λ label. not (list_any (bears label) c.args.stmts.now))) (sym same)
