use Rattle.std.proofs.Common.{◌≡◌, ◌≤◌, length, take, map, All, Any}
use Rattle.std.specs.Prelude.{◌↔◌, IsTrue}
use Rattle.op_table.specs.Operators.{arity_of}
use Rattle.f77_tree.specs.Known.{known, MayTrapBut, AccessMayTrapBut}
use Rattle.f77_tree.specs.Value.{IsExpression}
use Rattle.range_lines.specs.RangeRisks.{IsMarked}
use Rattle.range_lines.proofs.RiskTraps.{TrapsFrom}
use Rattle.range_lines.proofs.risks.+risk.Given as goal

abbrev pub invariant-access_risk-loop-sub : goal.invariant-access_risk-loop-sub
invariant-access_risk-loop-sub l = record {
  counted : l.at ≡ l.sub-index;
  as_many : length l.sub-items ≡ length l.dims;
  expressions : All (IsExpression l.names) l.sub-items;
  rest : AccessMayTrapBut (IsMarked l.current l.k) l.names l.access ↔ TrapsFrom (IsMarked l.current l.k) l.names l.dims l.sub-items l.at;
}

abbrev pub invariant-foresee-loop-arg : goal.invariant-foresee-loop-arg
invariant-foresee-loop-arg l = record {
  counted : l.count ≡ l.arg-index;
  as_many : length l.arg-items ≡ arity_of l.op;
  few : length l.arg-items ≤ 3;
  room : length l.operands ≡ 3;
  expressions : All (IsExpression l.names) l.arg-items;
  values : take l.count l.operands ≡ map known (take l.arg-index l.arg-items);
  risks : IsTrue l.risk ↔ Any (MayTrapBut (IsMarked l.current l.k) l.names) (take l.arg-index l.arg-items);
}
