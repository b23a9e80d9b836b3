use Rattle.std.proofs.Common.{◌≡◌, ◌≤◌, length, take, map, All, Any}
use Rattle.std.specs.Prelude.{◌↔◌, IsTrue}
use Rattle.op_table.specs.Operators.{arity_of}
use Rattle.f77_tree.specs.Known.{known, MayTrap, AccessMayTrap}
use Rattle.f77_tree.specs.Value.{IsExpression}
use Rattle.f77_tree.proofs.ForesightLemmas.{TrapsFrom}
use Rattle.f77_tree.proofs.foresight.+foresight.Given as goal

abbrev pub invariant-access_may_trap-loop-sub : goal.invariant-access_may_trap-loop-sub
invariant-access_may_trap-loop-sub l = record {
  counted : l.k ≡ l.sub-index;
  as_many : length l.sub-items ≡ length l.dims;
  expressions : All (IsExpression l.names) l.sub-items;
  rest : AccessMayTrap l.names l.access ↔ TrapsFrom l.names l.dims l.sub-items l.k;
}

abbrev pub invariant-foresee-loop-arg : goal.invariant-foresee-loop-arg
invariant-foresee-loop-arg l = record {
  counted : l.count ≡ l.arg-index;
  as_many : length l.arg-items ≡ arity_of l.op;
  few : length l.arg-items ≤ 3;
  room : length l.operands ≡ 3;
  expressions : All (IsExpression l.names) l.arg-items;
  values : take l.count l.operands ≡ map known (take l.arg-index l.arg-items);
  risks : IsTrue l.risk ↔ Any (MayTrap l.names) (take l.arg-index l.arg-items);
}
