-- What contracts see of the operations of pieces.
use Rattle.std.specs.Prelude.{ℕ, Bool, false, List, Option, Some, None, slice_get}
use Rattle.net_tables.specs.declared.lookups.Board.{Board}
use Rattle.net_tables.specs.LookupView.{net_on}
use Rattle.op_board.specs.OperationNets.{OperationNet}
use Rattle.set_lists.specs.Sets.{test_at}
use Rattle.operation_tables.specs.declared.plan.PieceOperations.{PieceOperations}

module _ {W : ℕ} where
  -- an operation of the piece needs the line
  abbrev pub piece_needs : Option (PieceOperations W) → (i line : ℕ) → Bool
  piece_needs None i line = false
  piece_needs (Some operations) i line = test_at operations.needs i line

  -- the net whose pieces have these operations
  abbrev pub net_with_operations : Board W → List (PieceOperations W) → OperationNet
  net_with_operations board pieces = record { net = net_on board; needs = λ piece i line. piece_needs (slice_get pieces piece) i line }
