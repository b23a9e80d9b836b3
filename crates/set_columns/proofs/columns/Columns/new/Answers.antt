use Rattle.std.proofs.Common.{◌*◌, ◌+◌, ◌/◌}
use Rattle.set_columns.specs.Marks.{marked}
use Rattle.set_columns.proofs.Marking.{none_marked}
use Rattle.set_columns.proofs.columns.Columns.new.Goals as goal

pub returns-clause-marks : goal.returns-clause-marks
unfolding marked
returns-clause-marks c = λ column row.
    rw (c.in_ok-vec.ensures.items_if_clones_equal (λ y is. is))
    (none_marked c.empty.result (c.args.columns * (c.args.rows / 64 + 1)) (c.args.rows / 64 + 1) column row c.empty.ensures)
