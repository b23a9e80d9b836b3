use Rattle.std.proofs.Common.{◌≡◌, suc, ◌≤◌, pos, length, take, drop, map, All}
use Rattle.op_table.specs.Operators.{arity_of, applied}
use Rattle.f77_tree.specs.Value.{value, all_values, and_then, subscripted, dims_of, place_of, IsExpression}
use Rattle.f77_tree.proofs.ExpressionLemmas.{values_after, weight, weights}
use Rattle.f77_tree.proofs.Places.{IsOrdered, IsAt, count_end}
use Rattle.f77_tree.proofs.evaluation.+evaluation.Given as goal

abbrev pub decreases-evaluate : goal.decreases-evaluate
decreases-evaluate l = weight l.e.now

abbrev pub decreases-locate : goal.decreases-locate
decreases-locate l = suc (weights l.access.now.subs)

abbrev pub invariant-evaluate-loop-arg : goal.invariant-evaluate-loop-arg
invariant-evaluate-loop-arg l = record {
  counted : l.count ≡ l.arg-index;
  as_many : length l.arg-items ≡ arity_of l.op;
  few : length l.arg-items ≤ 3;
  room : length l.operands ≡ 3;
  expressions : All (IsExpression l.names) l.arg-items;
  values : values_after (take l.count l.operands) (all_values (map (value l.names l.store l.next) (drop l.arg-index l.arg-items))) ≡ all_values (map (value l.names l.store l.next) l.arg-items);
  whole : and_then (applied l.op) (all_values (map (value l.names l.store l.next) l.arg-items)) ≡ value l.names l.store l.next l.e;
}

abbrev pub invariant-locate-loop-sub : goal.invariant-locate-loop-sub
invariant-locate-loop-sub l = record {
  counted : l.k ≡ l.sub-index;
  as_many : length l.sub-items ≡ length l.dims;
  expressions : All (IsExpression l.names) l.sub-items;
  bounds : All IsOrdered (drop l.k l.dims);
  few : count_end l.names l.access.name ≤ 2147483647;
  here : IsAt (drop l.k l.dims) (place_of l.names l.access.name) (count_end l.names l.access.name) l.size l.word;
  rest : subscripted (drop l.k l.dims) l.size l.word (map (value l.names l.store l.next) (drop l.k l.sub-items)) ≡ subscripted (dims_of l.names l.access.name) (pos 1) (pos (place_of l.names l.access.name)) (map (value l.names l.store l.next) l.access.subs);
}
