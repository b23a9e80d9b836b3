-- The operations of a piece as they are planned, and as they are defined.
use Rattle.std.proofs.Common.{◌≡◌, ◌<◌, ℕ, Bool, List, length, map, get_or, Option, Some, slice_get, sym, ap, ◌∙◌, arith}
use Rattle.std.proofs.Props.{props}
use Rattle.std.proofs.lemmas.List.{length-map}
use Rattle.std.proofs.lemmas.Option.{slice_get-get_or}
use mathlib.Core.Logic.{∥∥₁_elim}
use mathlib.Core.Path.{fun_ext}
use Rattle.class_set.specs.ClassSet.{holds}
use Rattle.class_set.specs.declared.ClassSet.{ClassSet}
use Rattle.net_board.specs.Nodes.{graph_in}
use Rattle.op_board.specs.Operations as board
use Rattle.op_board.specs.OperationNets.{OperationNet, operation_at, operation_count, operation_in, operations_at}
use Rattle.operation_lists.specs.declared.operations.Operation.{Operation}
use Rattle.operation_lists.specs.Seen.{operation_seen}
use Rattle.set_lists.specs.Sets.{set_count, test_at}
use Rattle.operation_tables.specs.declared.plan.OperationPlan.{OperationPlan}
use Rattle.operation_tables.specs.declared.plan.PieceOperations.{PieceOperations}
use Rattle.operation_tables.specs.PieceView.{piece_needs}
use Rattle.operation_tables.specs.PlanView.{operations_in}
use Rattle.operation_tables.proofs.TakerLemmas.{operation_seen_at}

module _ {W : ℕ} (plan : OperationPlan W) (piece : ℕ) (planned : PieceOperations W) (exists : piece < (graph_in (operations_in plan).net).nodes) (is : planned ≡ get_or plan.pieces.items piece planned) where
  abbrev x : OperationNet
  x = operations_in plan

  pub found : slice_get plan.pieces.items piece ≡ Some planned
  found = slice_get-get_or plan.pieces.items piece planned (let all = plan.every_piece in omega (arith, all, exists)) ∙ ap (λ (p : PieceOperations W). Some p) (sym is)

  pub planned_count : length planned.operations.items ≡ operation_count x piece
  planned_count = ∥∥₁_elim (plan.own_operations piece planned found) (hlevel props) (λ own. sym (length-map planned.operations.items operation_seen) ∙ ap length own)

  pub needs_count : set_count planned.needs ≡ operation_count x piece
  needs_count = plan.own_needs piece planned found ∙ planned_count

  pub needs_are : (i : ℕ) (set : ClassSet W) → ((line : ℕ) → holds set line ≡ test_at planned.needs i line) → ◌≡◌ {A = ℕ → Bool} (λ line. x.needs piece i line) (λ line. holds set line)
  needs_are i set set_is =
      ap (λ (o : Option (PieceOperations W)). λ (line : ℕ). piece_needs o i line) found
      ∙ fun_ext (λ line. sym (set_is line))

  pub operation_is : (i : ℕ) (op : Operation) → i < length planned.operations.items → op ≡ get_or planned.operations.items i op → map operation_seen planned.operations.items ≡ operations_at x piece → operation_at x piece i ≡ operation_seen op
  operation_is i op low op_is own = ap (λ (ops : List board.Operation). operation_in (slice_get ops i)) (sym own) ∙ ap operation_in (operation_seen_at planned.operations.items i op low op_is)
