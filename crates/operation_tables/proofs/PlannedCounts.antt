-- How many operations a planned piece has, and that nothing past them needs a line.
use Rattle.std.proofs.Common.{◌≡◌, ◌<◌, ◌≤◌, ◌⊎◌, ⊎_elim, inl, inr, ℕ, false, length, get_or, slice_get, Option, None, Some, map, refl, sym, ap, ◌∙◌, arith}
use mathlib.Core.Logic.{∥∥₁_elim}
use Rattle.std.proofs.Props.{props}
use Rattle.std.proofs.lemmas.List.{length-map}
use Rattle.std.proofs.lemmas.Option.{slice_get_past, slice_get_read}
use Rattle.net_board.specs.Nodes.{graph_in}
use Rattle.op_board.specs.OperationNets.{operation_count, operations_at}
use Rattle.operation_lists.specs.Seen.{operation_seen}
use Rattle.set_lists.proofs.Past.{test_past}
use Rattle.operation_tables.specs.declared.plan.OperationPlan.{OperationPlan}
use Rattle.operation_tables.specs.declared.plan.PieceOperations.{PieceOperations}
use Rattle.operation_tables.specs.PieceView.{piece_needs}
use Rattle.operation_tables.specs.PlanView.{operations_in}

module _ {W : ℕ} (plan : OperationPlan W) (piece : ℕ) where
  pub counted : (o : PieceOperations W) → slice_get plan.pieces.items piece ≡ Some o → length o.operations.items ≡ operation_count (operations_in plan) piece
  counted o at = ∥∥₁_elim (plan.own_operations piece o at) (hlevel props) (λ (own : map operation_seen o.operations.items ≡ operations_at (operations_in plan) piece). sym (length-map o.operations.items operation_seen) ∙ ap length own)

  -- as it is read
  pub counted_at : (o : PieceOperations W) → piece < (graph_in (operations_in plan).net).nodes → o ≡ get_or plan.pieces.items piece o → length o.operations.items ≡ operation_count (operations_in plan) piece
  counted_at o exists is = counted o (slice_get_read plan.pieces.items (length plan.pieces.items) piece o refl (omega (arith, exists, plan.every_piece)) is)

module _ {W : ℕ} (plan : OperationPlan W) where
  -- no operation needs a line where there is no piece
  pub outside_pieces : (piece i line : ℕ) → (graph_in (operations_in plan).net).nodes ≤ piece → (operations_in plan).needs piece i line ≡ false
  outside_pieces piece i line past = ap (λ o. piece_needs o i line) (slice_get_past plan.pieces.items piece (omega (arith, past, plan.every_piece)))

  cases : (o : Option (PieceOperations W)) → (o ≡ None) ⊎ ((p : PieceOperations W) × (o ≡ Some p))
  cases None = inl refl
  cases (Some p) = inr (p, refl)

  -- and none that isn't there does
  pub outside_operations : (piece i line : ℕ) → operation_count (operations_in plan) piece ≤ i → (operations_in plan).needs piece i line ≡ false
  outside_operations piece i line past = ⊎_elim
      (λ (none : slice_get plan.pieces.items piece ≡ None). ap (λ o. piece_needs o i line) none)
      (λ (found : (p : PieceOperations W) × (slice_get plan.pieces.items piece ≡ Some p)).
      let count = counted plan piece found.0 found.1 in
      let needs = plan.own_needs piece found.0 found.1 in
      ap (λ o. piece_needs o i line) found.1 ∙ test_past found.0.needs i line (omega (arith, past, count, needs)))
      (cases (slice_get plan.pieces.items piece))
