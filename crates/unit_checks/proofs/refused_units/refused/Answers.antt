use Rattle.std.proofs.Common.{ap, sym, ◌∙◌}
use Rattle.std.specs.Prelude.{Err}
use Rattle.layout_rules.specs.declared.layout_end.LayoutEnd.{LayoutEnd}
use Rattle.program_units.specs.Units.{standing_in}
use Rattle.unit_checks.proofs.RefusedUnits.{none-refused, some-refused}
use Rattle.unit_checks.proofs.refused_units.refused.Goals as goal

pub returns-in-Ok : goal.returns-in-Ok
returns-in-Ok c = none-refused (standing_in c.args.unit.now) c.in_ok-list.list c.args.checked c.in-Ok.field-0 c.in_ok-list.ensures c.in-Ok.ensures.accepted

pub returns : goal.returns
returns c =
    let end = c.in_ok-refusal-in-Err.refusal in
    some-refused (standing_in c.args.unit.now) c.in_ok-list.list c.args.checked end c.in_ok-list.ensures
    (c.in-Err.ensures.refused c.in_ok-refusal-in-Err.ensures.other ∙ ap (λ (e : LayoutEnd). Err e) (sym c.in_ok-refusal-in-Err.ensures.same))
