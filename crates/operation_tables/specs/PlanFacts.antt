-- What a plan knows of the operations of its pieces, as propositions.
use Rattle.std.specs.Prelude.{◌≡◌, ◌<◌, ◌≤◌, ℕ, suc, ◌==◌, ◌&&◌, true, false, Some, slice_get}
use Rattle.f77_tree.specs.Operations.{most_operations}
use Rattle.net_board.specs.Nodes.{graph_in, is_acting, kind_in}
use Rattle.op_board.specs.Operations.{Operation, is_decision}
use Rattle.op_board.specs.OperationFacts.{is_parting}
use Rattle.op_board.specs.OperationLists.{IsOperationList}
use Rattle.op_board.specs.OperationNets.{OperationNet, operation_count, operations_at}

pub record PlanFacts (x : OperationNet) : Type 0 where
  -- a piece that acts has operations, of which the last gives no value and each other one gives one to a later one
  pub lists : (piece : ℕ) → piece < (graph_in x.net).nodes → is_acting (kind_in x.net piece) ≡ true → IsOperationList (operations_at x piece)
  -- where edges part the last one is a decision, and no other one is
  pub decisions : (piece i : ℕ) (op : Operation) → piece < (graph_in x.net).nodes → slice_get (operations_at x piece) i ≡ Some op → is_decision op.work ≡ (is_parting (kind_in x.net piece) && (suc i == operation_count x piece))
  -- a piece touches the lines that its operations need, and some operation needs each line that it touches
  pub touched : (piece i line : ℕ) → piece < (graph_in x.net).nodes → i < operation_count x piece → x.needs piece i line ≡ true → x.net.touches piece line ≡ true
  pub needed : (piece line : ℕ) → piece < (graph_in x.net).nodes → is_acting (kind_in x.net piece) ≡ true → x.net.touches piece line ≡ true → ((i : ℕ) → i < operation_count x piece → x.needs piece i line ≡ false) → ⊥
  -- no piece has more operations than a statement may ask
  pub few : (piece : ℕ) → piece < (graph_in x.net).nodes → operation_count x piece ≤ most_operations x.net.program
