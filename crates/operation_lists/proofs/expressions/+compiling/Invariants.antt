use Rattle.std.proofs.Common.{◌≡◌, ◌≤◌, ◌+◌, length, map, drop, All}
use Rattle.std.specs.Prelude.{sum_by}
use Rattle.f77_tree.specs.declared.expressions.Expr.{Read}
use Rattle.f77_tree.specs.Operations.{operations}
use Rattle.f77_tree.specs.Value.{IsExpression}
use Rattle.f77_tree.proofs.Places.{IsOrdered}
use Rattle.op_board.specs.Operations.{place_of_read}
use Rattle.operation_lists.specs.CanPerform.{CanPerform}
use Rattle.operation_lists.specs.OperandLists.{operands_compiled, row_after}
use Rattle.operation_lists.specs.Seen.{operand_seen, operation_seen}
use Rattle.operation_lists.proofs.CompiledLists.{subscripts_compiled}
use Rattle.operation_lists.proofs.DimensionParts.{HasParts}
use Rattle.operation_lists.proofs.expressions.+compiling.Given as goal

abbrev pub invariant-compile_all-loop-e : goal.invariant-compile_all-loop-e
invariant-compile_all-loop-e l = record {
  expressions : All (IsExpression l.p.names) l.e-items;
  can : All (CanPerform l.p) l.done.items;
  within : l.e-index ≤ length l.e-items;
  as_many : length l.operands.items ≡ l.e-index;
  compiled : row_after (map operand_seen l.operands.items) (operands_compiled l.p.names (map operation_seen l.done.items) (drop l.e-index l.e-items)) ≡ operands_compiled l.p.names (map operation_seen l.fn.done.items) l.e-items;
  few : length l.done.items + sum_by operations (drop l.e-index l.e-items) ≤ length l.fn.done.items + sum_by operations l.e-items;
}

abbrev pub invariant-compile_place-loop-sub : goal.invariant-compile_place-loop-sub
invariant-compile_place-loop-sub l = record {
  counted : l.k ≡ l.sub-index;
  as_many : length l.sub-items ≡ length l.dims;
  expressions : All (IsExpression l.p.names) l.sub-items;
  can : All (CanPerform l.p) l.done.items;
  bounds : All IsOrdered (drop l.k l.dims);
  parts : HasParts (drop l.k l.dims) l.size;
  compiled : subscripts_compiled l.p.names (map operation_seen l.done.items) (drop l.k l.dims) l.size (operand_seen l.place) (drop l.k l.sub-items) ≡ place_of_read l.p.names (map operation_seen l.fn.done.items) (Read l.access);
  few : length l.done.items + sum_by (λ e. 2 + operations e) (drop l.k l.sub-items) ≤ length l.fn.done.items + sum_by (λ e. 2 + operations e) l.access.subs;
}
