-- Places of control with the nodes of their pieces.
use Rattle.std.specs.Prelude.{◌≡◌}
use Rattle.net_board.specs.ControlPlaces.{IsPlaced}
use Rattle.op_board.specs.OperationNets.{OperationNet, first_operation, operation_count, operation_node_count}
use Rattle.operation_places.specs.declared.control_moves.Visit.{Visit}

-- the place is one of the net, and the numbers are those of the nodes of its piece
pub record IsVisit (x : OperationNet) (v : Visit) : Type 0 where
  pub placed : IsPlaced x.net v.control
  pub first : v.first ≡ first_operation x v.control.piece
  pub count : v.count ≡ operation_node_count x v.control.piece
  pub operations : v.operations ≡ operation_count x v.control.piece
