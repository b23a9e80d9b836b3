use Rattle.std.proofs.Common.{◌≡◌, ◌+◌, length}
use Rattle.std.specs.List.{range_with_len, count_by}
use Rattle.shared_forms.specs.Numbered.{temporary_of}
use Rattle.simplified_forms.specs.Plans.{answer, AreTold}
use Rattle.regenerate.proofs.names.temporary_names.Given as goal

abbrev pub invariant-loop-is_one : goal.invariant-loop-is_one
invariant-loop-is_one l = record {
  names : AreTold (temporary_of l.q l.a) l.is_one-index l.names.items;
  next : l.next ≡ length l.q.names + count_by (answer l.shared) (range_with_len 0 l.is_one-index);
}
