use Rattle.operation_tables.proofs.RowLawLemmas.{touched_line}
use Rattle.operation_tables.proofs.row_laws.needed_lines_exist.Goals as goal

pub returns : goal.returns
returns c = λ x piece i line is exists inside needs.
    let n = is.is_net in
    touched_line x is (λ exec class can need. c.needs_are_numbered.ensures x.net.program n.classes exec class n.program n.own_classes can need) piece line exists
    (c.pieces_touch_needed_lines.ensures.touched x piece i line is exists inside needs)
