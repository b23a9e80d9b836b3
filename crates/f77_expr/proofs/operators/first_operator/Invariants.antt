use Rattle.std.proofs.Common.{◌≡◌, drop}
use Rattle.f77_expr.specs.Reader.{operator_at, operator_among}
use Rattle.f77_expr.proofs.operators.first_operator.Given as goal

abbrev pub invariant-loop-op : goal.invariant-loop-op
invariant-loop-op l = operator_among (drop l.op-index l.op-items) l.text ≡ operator_at l.text
