use Rattle.std.proofs.Common.{◌≡◌, ◌+◌, ◌∷◌, [], ◌++◌, List, ap, sym, ◌∙◌, arith}
use Rattle.std.proofs.lemmas.List.FromFn.{map-range_with_len_more}
use Rattle.program_units.specs.CallTable.{CallRow}
use Rattle.inlined_copies.specs.LabelRows.{label_row}
use Rattle.inlined_copies.proofs.labels.label_rows.Goals as goal

pub loop-k-preserved : goal.loop-k-preserved
loop-k-preserved c =
    let at : 0 + c.loop-k.k ≡ c.loop-k.k = omega arith in
    c.in_ok-push.ensures.items
    ∙ ap (λ (row : CallRow). c.loop-k.rows.items ++ row ∷ []) c.in_ok-label_row.ensures
    ∙ ap (λ (rows : List CallRow). rows ++ label_row c.args.limit c.args.us.now c.loop-k.k ∷ []) c.loop-k.invariant
    ∙ sym (map-range_with_len_more (label_row c.args.limit c.args.us.now) 0 c.loop-k.k c.loop-k.k at)
