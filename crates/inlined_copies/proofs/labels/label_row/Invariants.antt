use Rattle.std.proofs.Common.{◌≡◌, take, min, sum_by}
use Rattle.program_units.specs.CallTable.{callees}
use Rattle.inlined_copies.specs.LabelRows.{own_labels}
use Rattle.inlined_copies.proofs.labels.label_row.Given as goal

abbrev pub invariant-loop-s : goal.invariant-loop-s
invariant-loop-s l = record {
  own : l.own ≡ min (sum_by (own_labels l.k) (take l.s-index l.unit)) l.limit;
  callees : l.callees.items ≡ callees l.us (take l.s-index l.unit);
}
