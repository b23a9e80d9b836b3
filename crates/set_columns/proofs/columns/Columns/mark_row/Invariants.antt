use Rattle.std.proofs.Common.{◌≡◌, ◌*◌, ◌-◌}
use Rattle.class_set.specs.ClassSet.{holds}
use Rattle.class_set.specs.Members.{first_above}
use Rattle.set_columns.specs.Marks.{marked}
use Rattle.set_columns.proofs.Marking.{MarkedSo}
use Rattle.set_columns.proofs.columns.Columns.mark_row.Given as goal

abbrev pub invariant-loop-column : goal.invariant-loop-column
invariant-loop-column g l = record {
  columns : l.self.columns ≡ l.initial.self.columns;
  rows : l.self.rows ≡ l.initial.self.rows;
  marks : MarkedSo (marked l.initial.self) (marked l.self) (holds l.set) l.row l.before;
}

abbrev pub decreases-loop-column : goal.decreases-loop-column
decreases-loop-column g l = 64 * g.row.W - first_above l.before
