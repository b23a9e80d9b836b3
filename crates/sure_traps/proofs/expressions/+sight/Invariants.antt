use Rattle.std.proofs.Common.{◌≡◌, ◌≤◌, length, take, drop, map, All}
use Rattle.op_table.specs.Operators.{arity_of}
use Rattle.f77_tree.specs.Known.{known}
use Rattle.f77_tree.specs.Value.{IsExpression}
use Rattle.sure_traps.specs.Causes.{access_cause as access_cause_of, cause_in, first_some}
use Rattle.sure_traps.proofs.Rows.{subs_cause}
use Rattle.sure_traps.proofs.expressions.+sight.Given as goal

abbrev pub invariant-access_cause-loop-sub : goal.invariant-access_cause-loop-sub
invariant-access_cause-loop-sub l = record {
  counted : l.k ≡ l.sub-index;
  as_many : length l.sub-items ≡ length l.dims;
  expressions : All (IsExpression l.names) l.sub-items;
  rest : access_cause_of l.names l.access ≡ subs_cause l.names (drop l.sub-index l.dims) (drop l.sub-index l.sub-items);
}

abbrev pub invariant-see-loop-arg : goal.invariant-see-loop-arg
invariant-see-loop-arg l = record {
  counted : l.count ≡ l.arg-index;
  as_many : length l.arg-items ≡ arity_of l.op;
  few : length l.arg-items ≤ 3;
  room : length l.operands ≡ 3;
  expressions : All (IsExpression l.names) l.arg-items;
  values : take l.count l.operands ≡ map known (take l.arg-index l.arg-items);
  causes : l.cause ≡ first_some (map (cause_in l.names) (take l.arg-index l.arg-items));
}
