-- The operations of the pieces of a net, as they are planned.
use Rattle.std.specs.Prelude.{◌≡◌, ◌↔◌, ◌≤◌, ℕ, Bool, true, List, length, map, All, Some, slice_get}
use Rattle.alias_classes.specs.Classes.{ClassTable}
use Rattle.dep_routing.specs.Touches.{exec_kind}
use Rattle.net_board.specs.Nodes.{NetOf, graph_in, kind_in}
use Rattle.op_board.specs.Needs.{OperationNeeds}
use Rattle.op_board.specs.Operations.{operations_of}
use Rattle.operation_lists.specs.declared.operations.Operation.{Operation}
use Rattle.operation_lists.specs.CanPerform.{CanPerform}
use Rattle.operation_lists.specs.Seen.{operation_seen}
use Rattle.set_lists.specs.declared.lists.SetList.{SetList}
use Rattle.set_lists.specs.Sets.{set_count, test_at}
use Rattle.operation_tables.specs.declared.plan.PieceOperations.{PieceOperations}

-- for each of the operations the set of the lines that it needs, where it is told which lines the piece touches
pub record AreNeedsOf {W : ℕ} (c : ClassTable) (touches : ℕ → Bool) (operations : List Operation) (needs : SetList W) : Type 0 where
  pub count : set_count needs ≡ length operations
  pub each : (i line : ℕ) (operation : Operation) → slice_get operations i ≡ Some operation → (test_at needs i line ≡ true) ↔ OperationNeeds c touches (operation_seen operation) line

-- the operations of the piece, and the lines that they need
pub record AreOperationsOf {W : ℕ} (net : NetOf) (c : ClassTable) (piece : ℕ) (planned : PieceOperations W) : Type 0 where
  pub operations : map operation_seen planned.operations.items ≡ operations_of net.program.names (kind_in net piece) (exec_kind net.program piece)
  pub needs : AreNeedsOf c (net.touches piece) planned.operations.items planned.needs
  pub few : length planned.operations.items ≤ 500
  pub can : All (CanPerform net.program) planned.operations.items

-- the operations of each piece
pub record ArePlanned {W : ℕ} (net : NetOf) (c : ClassTable) (pieces : List (PieceOperations W)) : Type 0 where
  pub every_piece : length pieces ≡ (graph_in net).nodes
  pub each : (piece : ℕ) (planned : PieceOperations W) → slice_get pieces piece ≡ Some planned → AreOperationsOf net c piece planned
