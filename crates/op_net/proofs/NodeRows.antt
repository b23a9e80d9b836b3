-- What the row of a node tells of its name.
use Rattle.std.proofs.Common.{◌≡◌, ◌≢◌, ◌∙◌, ℕ, Option, Some, None, ap, subst, sym}
use Rattle.firing.specs.declared.system.NodeName.{NodeName}
use Rattle.firing.specs.declared.system.NodeName.TheVariants.{Act, Merge, Op, Switch}
use Rattle.op_board.specs.OperationNets.{OperationNet}
use Rattle.operation_tables.specs.declared.rows.Row.{Row}
use Rattle.operation_tables.specs.OperationRows.{IsRow}
use Rattle.operation_tables.specs.OperationTables.{RowOfNode}
use Rattle.op_net.proofs.RowReads.{row_number, row_piece}

no_more : (row : Row) → {A : Type 0} → ◌≡◌ {A = Option Row} (Some row) None → A
no_more row is = absurd cc

module _ (x : OperationNet) where
  -- the row of a node of which it is known which operation it is
  pub row_by_name : (name : NodeName) (piece i : ℕ) (row : Row) → name ≡ Op piece i → RowOfNode x name (Some row) → ∥ IsRow x piece i row ∥₁
  row_by_name name piece i row is own = subst (λ (n : NodeName). RowOfNode x n (Some row)) is own

  -- a node that has a row is the operation of which the row tells
  pub named_by_row : (name : NodeName) (row : Row) → RowOfNode x name (Some row) → name ≡ Op row.piece row.number
  named_by_row (Op piece i) row is = ap (λ p. Op p i) (sym (row_piece x piece i row is)) ∙ ap (λ n. Op row.piece n) (sym (row_number x piece i row is))
  named_by_row (Switch piece line) row is = no_more row is
  named_by_row (Merge piece line) row is = no_more row is
  named_by_row (Act piece) row is = no_more row is

  -- a node that has none is no operation
  pub named_by_none : (name : NodeName) → RowOfNode x name None → (piece i : ℕ) → name ≢ Op piece i
  named_by_none (Op own j) is piece i = absurd is
  named_by_none (Switch own line) is piece i = λ e. cc
  named_by_none (Merge own line) is piece i = λ e. cc
  named_by_none (Act own) is piece i = λ e. cc
