use Rattle.std.proofs.Common.{◌≡◌, ◌-◌, length, get_or}
use Rattle.class_set.specs.ClassSet.{holds}
use Rattle.shared_rows.specs.Table.{row_at, with_row}
use Rattle.dep_routing.specs.Rows.{begun_row}
use Rattle.dep_routing.proofs.Filling.{IsFilling}
use Rattle.dep_routing.proofs.rows.push_row.Given as goal

abbrev pub invariant-loop-line : goal.invariant-loop-line
invariant-loop-line g l = record {
  is : l.table ≡ with_row l.fn.table (row_at l.table (length l.fn.table.rows));
  filling : IsFilling (holds l.set) (λ _. l.number) (λ line. get_or (begun_row l.fn.table l.fn.other l.rest) line 0) l.lines l.line (row_at l.table (length l.fn.table.rows));
}

abbrev pub decreases-loop-line : goal.decreases-loop-line
decreases-loop-line g l = l.lines - l.line
