use Rattle.std.proofs.Common.{◌≡◌, ◌≤◌, length, take, map, All}
use Rattle.op_table.specs.Operators.{arity_of}
use Rattle.f77_tree.specs.Known.{known}
use Rattle.f77_tree.specs.Value.{IsExpression}
use Rattle.range_lines.proofs.shapes.+known_value.Given as goal

abbrev pub invariant-loop-arg : goal.invariant-loop-arg
invariant-loop-arg l = record {
  counted : l.count ≡ l.arg-index;
  as_many : length l.arg-items ≡ arity_of l.op;
  few : length l.arg-items ≤ 3;
  room : length l.operands ≡ 3;
  expressions : All (IsExpression l.names) l.arg-items;
  values : take l.count l.operands ≡ map known (take l.arg-index l.arg-items);
}
