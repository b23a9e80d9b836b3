use Rattle.std.proofs.Common.{◌≡◌, ℕ, List, get_or, ap, subst, ◌∙◌}
use Rattle.program_units.specs.CallTable.{AreSettled, CallRow, call_rows}
use Rattle.program_units.specs.Heights.{height}
use Rattle.inlined_copies.proofs.CountedWidths.{counted-main}
use Rattle.unit_laws.proofs.UnitHeights.{are-heights, heights-few}
use Rattle.inlined_copies.proofs.widths.main_width.Goals as goal

pub returns : goal.returns
returns c =
    let us = c.args.us.now in
    let limit = c.args.limit in
    let widths = c.in_ok-widths.widths.items in
    let rows : c.deref.result.now ≡ call_rows limit us = c.deref.ensures.value ∙ c.in_ok-rows.ensures in
    let settled : AreSettled limit (call_rows limit us) widths = subst (λ (rs : List CallRow). AreSettled limit rs widths) rows c.in_ok-widths.ensures in
    c.width_at.ensures ∙ ap (λ (ws : List ℕ). get_or ws 0 0) c.deref-2.ensures.value ∙ counted-main us limit (height us) (are-heights us c.requires.none) (heights-few us c.requires.none) widths settled
