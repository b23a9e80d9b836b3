use Rattle.std.proofs.Common.{◌≡◌, List, subst, ◌∙◌}
use Rattle.program_units.specs.CallTable.{AreSettled, CallRow}
use Rattle.program_units.specs.Heights.{height}
use Rattle.inlined_copies.specs.LabelRows.{label_rows}
use Rattle.inlined_copies.proofs.CountedLabels.{settled-labels, counted-by}
use Rattle.unit_laws.proofs.UnitHeights.{are-heights, heights-few}
use Rattle.inlined_copies.proofs.labels.label_counts.Goals as goal

pub returns : goal.returns
returns c =
    let us = c.args.us.now in
    let limit = c.args.limit in
    let counts = c.in_ok-counts.counts.items in
    let rows : c.deref.result.now ≡ label_rows limit us = c.deref.ensures.value ∙ c.in_ok-rows.ensures in
    let settled : AreSettled limit (label_rows limit us) counts = subst (λ (rs : List CallRow). AreSettled limit rs counts) rows c.in_ok-counts.ensures in
    let exact = settled-labels us limit (height us) (are-heights us c.requires.none) (heights-few us c.requires.none) counts settled in
    record {
      exact = exact;
      counted = counted-by us limit (height us) (are-heights us c.requires.none) (heights-few us c.requires.none) counts exact;
    }
