use Rattle.std.proofs.Common.{◌≡◌, ◌-◌, get_or}
use Rattle.class_set.specs.ClassSet.{holds}
use Rattle.dep_routing.proofs.Filling.{IsFilling}
use Rattle.shared_rows.specs.Table.{row_at, with_row_at}
use Rattle.net_tables.proofs.places.write_at_lines.Given as goal

abbrev pub invariant-loop-line : goal.invariant-loop-line
invariant-loop-line g l = record {
  is : l.table ≡ with_row_at l.fn.table l.row (row_at l.table l.row);
  filling : IsFilling (holds l.set) (λ _. l.number) (λ k. get_or (row_at l.fn.table l.row) k 0) l.lines l.line (row_at l.table l.row);
}

abbrev pub decreases-loop-line : goal.decreases-loop-line
decreases-loop-line g l = l.lines - l.line
