use Rattle.std.proofs.Common.{◌≡◌, ◌≤◌, [], length, take, map, All}
use Rattle.op_table.specs.Operators.{arity_of}
use Rattle.f77_tree.specs.KnownWith.{known_with}
use Rattle.f77_tree.specs.Value.{IsExpression}
use Rattle.const_prop.specs.Closed.{words_on}
use Rattle.const_prop.specs.Table.{knowns}
use Rattle.const_prop.proofs.known_values.+known_value.Given as goal

abbrev pub invariant-loop-arg : goal.invariant-loop-arg
invariant-loop-arg g l = record {
  counted : l.count ≡ l.arg-index;
  as_many : length l.arg-items ≡ arity_of l.op;
  few : length l.arg-items ≤ 3;
  room : length l.operands ≡ 3;
  expressions : All (IsExpression l.p.names) l.arg-items;
  values : take l.count l.operands ≡ map (known_with l.p.names (words_on l.c (knowns l.rows []) l.edge)) (take l.arg-index l.arg-items);
}
