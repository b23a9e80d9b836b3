use Rattle.std.proofs.Common.{◌≡◌, take, min, sum_by}
use Rattle.f77_tree.specs.declared.statements.Labelled.{Labelled}
use Rattle.program_units.specs.CallTable.{callees, own_width}
use Rattle.inlined_copies.proofs.call_rows.call_row.Given as goal

abbrev pub invariant-loop-s : goal.invariant-loop-s
invariant-loop-s l = record {
  own : l.own ≡ min (sum_by (λ (s : Labelled). own_width l.k s.stmt) (take l.s-index l.unit)) l.limit;
  callees : l.callees.items ≡ callees l.us (take l.s-index l.unit);
}
