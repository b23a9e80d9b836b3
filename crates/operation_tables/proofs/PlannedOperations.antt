-- What a plan tells of an operation.
use Rattle.std.proofs.Common.{◌≡◌, ◌<◌, ℕ, List, length, get_or, map, Option, Some, slice_get, refl, sym, ap, ◌∙◌, arith}
use Rattle.std.proofs.Math.Logic.{∥∥₁_elim, ∥∥₁_map}
use mathlib.Core.Sum.{⊎_set}
use Rattle.std.proofs.Props.{props}
use Rattle.std.specs.Option.{option_map}
use Rattle.std.proofs.lemmas.Option.{slice_get-map, slice_get_read}
use Rattle.class_set.specs.ClassSet.{holds}
use Rattle.class_set.specs.declared.ClassSet.{ClassSet}
use Rattle.net_board.specs.Nodes.{graph_in}
use Rattle.op_board.specs.Operations as board
use Rattle.op_board.specs.OperationNets.{operation_at, operation_count, operation_in, operations_at}
use Rattle.operation_lists.specs.declared.operations.Operation.{Operation}
use Rattle.operation_lists.specs.Seen.{operand_seen, operation_seen, work_seen}
use Rattle.set_lists.specs.Sets.{set_count, test_at}
use Rattle.operation_tables.specs.declared.plan.OperationPlan.{OperationPlan}
use Rattle.operation_tables.specs.declared.plan.PieceOperations.{PieceOperations}
use Rattle.operation_tables.specs.PieceView.{piece_needs}
use Rattle.operation_tables.specs.PlanView.{operations_in}
use Rattle.operation_tables.specs.Telling.{operation_name}
use Rattle.operation_tables.proofs.PlannedCounts.{counted}

module _ {W : ℕ} (plan : OperationPlan W) (piece i : ℕ) (o : PieceOperations W) (exists : piece < (graph_in (operations_in plan).net).nodes) (inside : i < operation_count (operations_in plan) piece) (is : o ≡ get_or plan.pieces.items piece o) where
  at : slice_get plan.pieces.items piece ≡ Some o
  at = slice_get_read plan.pieces.items (length plan.pieces.items) piece o refl (omega (arith, exists, plan.every_piece)) is

  pub inside_operations : i < length o.operations.items
  inside_operations = let count = counted plan piece o at in omega (arith, count, inside)

  pub inside_needs : i < set_count o.needs
  inside_needs = let same = plan.own_needs piece o at in let low = inside_operations in omega (arith, same, low)

  here : map operation_seen o.operations.items ≡ operations_at (operations_in plan) piece → (op : Operation) → op ≡ get_or o.operations.items i op → slice_get (operations_at (operations_in plan) piece) i ≡ Some (operation_seen op)
  here own op read =
      ap (λ (ops : List board.Operation). slice_get ops i) (sym own) ∙ slice_get-map operation_seen o.operations.items i ∙ ap (option_map operation_seen) (slice_get_read o.operations.items (length o.operations.items) i op refl inside_operations read)

  pub planned_name : (op : Operation) → op ≡ get_or o.operations.items i op → operation_name (work_seen op.work) ≡ operation_name (operation_at (operations_in plan) piece i).work
  planned_name op read = ∥∥₁_elim (plan.own_operations piece o at) (hlevel (props, ⊎_set)) (λ (own : map operation_seen o.operations.items ≡ operations_at (operations_in plan) piece).
      ap (λ (q : Option board.Operation). operation_name (operation_in q).work) (sym (here own op read)))

  pub planned_operands : (op : Operation) → op ≡ get_or o.operations.items i op → ∥ map operand_seen op.operands.items ≡ (operation_at (operations_in plan) piece i).operands ∥₁
  planned_operands op read = ∥∥₁_map (plan.own_operations piece o at) (λ (own : map operation_seen o.operations.items ≡ operations_at (operations_in plan) piece).
      ap (λ (q : Option board.Operation). (operation_in q).operands) (sym (here own op read)))

  pub planned_needs : (set : ClassSet W) → ((line : ℕ) → holds set line ≡ test_at o.needs i line) → (line : ℕ) → holds set line ≡ (operations_in plan).needs piece i line
  planned_needs set read line =
      read line
      ∙ ap (λ (q : Option (PieceOperations W)). piece_needs q i line) (sym at)
