use Rattle.std.proofs.Common.{◌≡◌, ℕ, Some, length, slice_get}
use Rattle.operation_tables.specs.declared.rows.Row.{Row}
use Rattle.operation_tables.specs.OperationRows.{IsCountedHop, IsRowWith}
use Rattle.operation_tables.specs.PlanView.{operations_in}
use Rattle.operation_tables.specs.ScratchLines.{AreCounted}
use Rattle.operation_tables.proofs.rows.unlinked_rows.Given as goal

abbrev pub invariant-loop-i : goal.invariant-loop-i
invariant-loop-i g l =
    let x = operations_in l.plan in
    record {
      counted : AreCounted x l.piece l.i l.scratch;
      first : l.scratch.first.items ≡ l.fn.scratch.first.items;
      count : length l.rows.items ≡ l.i;
      rows : ∥ ((k : ℕ) (row : Row) → slice_get l.rows.items k ≡ Some row → IsRowWith (IsCountedHop x l.piece k) x l.piece k row) ∥₁;
    }
