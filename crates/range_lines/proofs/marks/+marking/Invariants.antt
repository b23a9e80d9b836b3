use Rattle.std.proofs.Common.{◌≡◌, ◌++◌, All, length, drop, flat_map}
use Rattle.f77_tree.specs.Value.{IsExpression}
use Rattle.range_lines.specs.Marks.{flags, bound_flags}
use Rattle.range_lines.proofs.marks.+marking.Given as goal

abbrev pub invariant-mark_all-loop-e : goal.invariant-mark_all-loop-e
invariant-mark_all-loop-e l = record {
  expressions : All (IsExpression l.names) l.e-items;
  rest : l.row ++ flat_map (flags l.names l.current l.k) (drop l.e-index l.e-items) ≡ l.fn.row ++ flat_map (flags l.names l.current l.k) l.e-items;
}

abbrev pub invariant-mark_access-loop-sub : goal.invariant-mark_access-loop-sub
invariant-mark_access-loop-sub l = record {
  counted : l.at ≡ l.sub-index;
  as_many : length l.sub-items ≡ length l.dims;
  expressions : All (IsExpression l.names) l.sub-items;
  rest : l.row ++ bound_flags l.names l.current l.k (drop l.at l.dims) (drop l.at l.sub-items) ≡ l.fn.row ++ bound_flags l.names l.current l.k l.dims l.sub-items;
}
