use Rattle.std.proofs.Common.{◌++◌, ℕ, List, ap, sym, ◌∙◌}
use Rattle.f77_tree.specs.declared.statements.Labelled.{Labelled}
use Rattle.layout_rules.proofs.FlatParts.{flat_map_taken}
use Rattle.program_units.specs.Units.{sub_dummies}
use Rattle.program_units.proofs.unit_dummies.dummies.Goals as goal

pub loop-s-preserved : goal.loop-s-preserved
loop-s-preserved c =
    let s = c.s-item.result in
    c.in_ok-add_dummies.ensures
    ∙ ap (λ (names : List (List ℕ)). names ++ sub_dummies s.stmt) c.loop-s.invariant
    ∙ sym (flat_map_taken (λ (a : Labelled). sub_dummies a.stmt) c.args.unit.now c.loop-s.s-index s c.loop-s-test.true c.s-item.is)
