-- The operands of an operation, as they are kept.
use Rattle.std.proofs.Common.{◌≡◌, ◌<◌, ℕ, List, length, get_or, map, Some, slice_get, refl, sym, ap, ◌∙◌, arith}
use mathlib.Core.Logic.{∥∥₁_elim}
use mathlib.Core.Sum.{⊎_set}
use Rattle.std.proofs.Props.{props}
use Rattle.std.specs.Option.{option_map}
use Rattle.std.proofs.lemmas.List.{length-map}
use Rattle.std.proofs.lemmas.Option.{slice_get-map, slice_get_read}
use Rattle.net_board.proofs.NodeLaws.{member_at}
use Rattle.op_board.specs.Operations as board
use Rattle.op_board.specs.OperationNets.{OperationNet, first_operation, operation_at, operation_count}
use Rattle.op_board.proofs.OperationTakers.{takes_among}
use Rattle.operation_lists.specs.declared.operations.Operand.{Operand}
use Rattle.operation_lists.specs.declared.operations.Operand.TheVariants as operand
use Rattle.operation_lists.specs.Seen.{operand_seen}
use Rattle.operation_tables.specs.Telling.{node_operand, node_operands}
use Rattle.operation_tables.proofs.NodesAfter.{giver_before}

module _ (x : OperationNet) (piece number : ℕ) (operands : List Operand) (kept : ∥ map operand_seen operands ≡ (operation_at x piece number).operands ∥₁) where
  pub operands_kept : length operands ≡ length (operation_at x piece number).operands
  operands_kept = ∥∥₁_elim kept (hlevel props) (λ (are : map operand_seen operands ≡ (operation_at x piece number).operands). sym (length-map operands operand_seen) ∙ ap length are)

  module _ (place : ℕ) (o : Operand) (within : place < length (operation_at x piece number).operands) (read : o ≡ get_or operands place o) where
    seen_at : map operand_seen operands ≡ (operation_at x piece number).operands → slice_get (operation_at x piece number).operands place ≡ Some (operand_seen o)
    seen_at are =
        let count = operands_kept in
        ap (λ (os : List board.Operand). slice_get os place) (sym are)
        ∙ slice_get-map operand_seen operands place
        ∙ ap (option_map operand_seen) (slice_get_read operands (length operands) place o refl (omega (arith, within, count)) read)

    pub told_at : Some (node_operand (first_operation x piece) (operand_seen o)) ≡ slice_get (node_operands x piece number) place
    told_at = ∥∥₁_elim kept (hlevel (props, ⊎_set)) (λ (are : map operand_seen operands ≡ (operation_at x piece number).operands).
        sym (slice_get-map (node_operand (first_operation x piece)) (operation_at x piece number).operands place ∙ ap (option_map (node_operand (first_operation x piece))) (seen_at are)))

    pub given_before : (giver : ℕ) → o ≡ operand.Node giver → number < operation_count x piece → giver < number
    given_before giver same inside = ∥∥₁_elim kept (hlevel props) (λ (are : map operand_seen operands ≡ (operation_at x piece number).operands).
        let at : slice_get (operation_at x piece number).operands place ≡ Some (board.From giver) = seen_at are ∙ ap (λ (a : Operand). Some (operand_seen a)) same in
        giver_before x piece number giver inside (takes_among (operation_at x piece number).operands giver (member_at (operation_at x piece number).operands place (board.From giver) at)))
